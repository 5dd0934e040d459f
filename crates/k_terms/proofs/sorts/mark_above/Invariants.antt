use Rattle.k_terms.specs.SortTable.{IsPass, unmarked}
use Rattle.k_terms.proofs.sorts.mark_above.Given as goal

abbrev pub invariant-loop : goal.invariant-loop
invariant-loop l = IsPass l.steps l.initial.row l.row

abbrev pub decreases-loop : goal.decreases-loop
decreases-loop l = unmarked l.row
