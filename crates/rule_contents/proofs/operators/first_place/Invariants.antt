use Rattle.std.proofs.Common.{ℕ, ◌<◌}
use Rattle.rule_contents.specs.Operators.{BeginsOnLeft}
use Rattle.rule_contents.proofs.operators.first_place.Given as goal

abbrev pub invariant-loop-at : goal.invariant-loop-at
invariant-loop-at l = (before : ℕ) → before < l.at → BeginsOnLeft l.rules l.marks l.sort l.words l.shape before → ⊥
