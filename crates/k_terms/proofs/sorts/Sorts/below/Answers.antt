use Rattle.std.proofs.Common.{subst}
use Rattle.k_terms.specs.SortTable.{IsTable}
use Rattle.k_terms.proofs.SortRows.{below_in_table, below_past_table}
use Rattle.k_terms.proofs.sorts.Sorts.below.Goals as goal

pub returns-then-place-rows : goal.returns-then-place-rows
returns-then-place-rows c =
    below_in_table _ _ _ _ _ _ _ (subst (λ o. IsTable o c.self.inside.rows) c.self.view_is c.self.invariant) c.as_slice-rows.ensures c.if-row-rows.true c.index-rows-row.is c.as_slice.ensures

pub returns-else-row-rows : goal.returns-else-row-rows
returns-else-row-rows c =
    below_past_table _ _ _ _ _ (subst (λ o. IsTable o c.self.inside.rows) c.self.view_is c.self.invariant) c.as_slice-rows.ensures c.else-row-rows.either
