use Rattle.std.proofs.Common.{ℕ, ◌<◌, get_or}
use Rattle.k_terms.specs.SortTable.{IsInside}
use Rattle.k_terms.proofs.sorts.table_size.Given as goal

abbrev pub invariant-loop-low : goal.invariant-loop-low
invariant-loop-low l = (k : ℕ) (d : ℕ × ℕ) → k < l.low-index → IsInside l.size (get_or l.steps k d)
