use Rattle.std.proofs.Common.{sym, ◌∙◌}
use Rattle.file_reader.proofs.Heads.{no_true}
use Rattle.file_reader.proofs.Heading.{header_answer, header_answer_stop, no_header}
use Rattle.file_reader.proofs.headers.read_header.Goals as goal

pub returns-then-not-has_word-clause-read : goal.returns-then-not-has_word-clause-read
returns-then-not-has_word-clause-read c = no_header c.args.source.now c.args.from c.requires (λ is. no_true (sym c.if-not-has_word.true ∙ c.has_word.ensures.1 is))

pub returns-in-Ok-clause-read : goal.returns-in-Ok-clause-read
returns-in-Ok-clause-read c =
    header_answer c.args.source.now c.args.from c.past.result c.in-Ok.name c.in-Ok.next c.past.ensures (c.has_word.ensures.0 c.if-not-has_word.false) c.in-Ok.ensures.read

pub returns-in-Err-clause-read : goal.returns-in-Err-clause-read
returns-in-Err-clause-read c =
    header_answer_stop c.args.source.now c.args.from c.past.result c.in-Err.stop c.past.ensures (c.has_word.ensures.0 c.if-not-has_word.false) c.in-Err.ensures.read
