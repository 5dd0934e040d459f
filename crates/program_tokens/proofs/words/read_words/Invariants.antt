use Rattle.std.proofs.Common.{◌≤◌, ◌-◌, drop, length}
use Rattle.program_tokens.specs.Words.{AreWords}
use Rattle.program_tokens.proofs.words.read_words.Given as goal

abbrev pub invariant-loop-at : goal.invariant-loop-at
invariant-loop-at l = AreWords l.terminals l.names l.text l.words l.tokens (drop l.at l.tokens) × (l.at ≤ length l.tokens)

abbrev pub decreases-loop-at : goal.decreases-loop-at
decreases-loop-at l = length l.tokens - l.at
