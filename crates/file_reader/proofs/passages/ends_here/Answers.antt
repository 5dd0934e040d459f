use Rattle.std.proofs.Common.{sym, ◌∙◌, drop}
use Rattle.file_reader.proofs.Passing.{word_ends, no_word_ends}
use Rattle.file_reader.proofs.passages.ends_here.Goals as goal

pub returns-in-Some : goal.returns-in-Some
returns-in-Some c = c.is_ending.ensures ∙ sym (word_ends c.in-Some.word.now (drop c.args.at c.args.source.now) c.in-Some.ensures)

pub returns-in-None : goal.returns-in-None
returns-in-None c = sym (no_word_ends (drop c.args.at c.args.source.now) c.in-None.ensures)
