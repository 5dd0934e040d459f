use Rattle.std.proofs.Common.{◌≡◌, ◌<◌, ◌≤◌, ℕ, false}
use Rattle.sorted_grammar.specs.Marks.{marked}
use Rattle.sorted_grammar.proofs.nullable.has_declared.Given as goal

abbrev pub invariant-loop-place : goal.invariant-loop-place
invariant-loop-place l = (k : ℕ) → 10 ≤ k → k < l.place → marked l.row k ≡ false
