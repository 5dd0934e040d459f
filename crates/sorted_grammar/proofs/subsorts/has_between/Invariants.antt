use Rattle.std.proofs.Common.{◌≢◌, ◌<◌, ℕ}
use Rattle.k_terms.specs.Sorts.{Below}
use Rattle.sorted_grammar.proofs.subsorts.has_between.Given as goal

abbrev pub invariant-loop-other : goal.invariant-loop-other
invariant-loop-other l = (k : ℕ) → k < l.other → k ≢ l.sort → Below l.sorts l.sort k → Below l.sorts k l.sort → ⊥
