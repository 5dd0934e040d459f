use Rattle.program_tokens.proofs.Reading.{first_fits, first_mark}
use Rattle.program_tokens.proofs.words.first_word.Goals as goal

pub terminal_at-requires-clause-fits : goal.terminal_at-requires-clause-fits
terminal_at-requires-clause-fits c = first_fits c.args.text.now c.args.tokens.now c.in-Some.first.now c.requires.stand c.in-Some.ensures.value

pub terminal_at-requires-clause-begins : goal.terminal_at-requires-clause-begins
terminal_at-requires-clause-begins c = first_mark c.args.text.now c.args.tokens.now c.in-Some.first.now c.requires.stand c.in-Some.ensures.value c.in-Mark.is
