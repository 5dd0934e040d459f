use Rattle.std.proofs.Common.{◌≡◌, drop}
use Rattle.program_tokens.specs.Words.{first_wide}
use Rattle.program_tokens.proofs.split.first_wide.Given as goal

abbrev pub invariant-loop-word : goal.invariant-loop-word
invariant-loop-word l = first_wide l.text l.words ≡ first_wide l.text (drop l.word-index l.words)
