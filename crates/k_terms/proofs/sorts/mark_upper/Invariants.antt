use Rattle.k_terms.proofs.SortRows.{IsPassUpTo}
use Rattle.k_terms.proofs.sorts.mark_upper.Given as goal

abbrev pub invariant-loop-low : goal.invariant-loop-low
invariant-loop-low l = IsPassUpTo l.steps l.initial.row l.row l.low-index l.has_marked
