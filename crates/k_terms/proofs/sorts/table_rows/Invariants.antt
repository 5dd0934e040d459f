use Rattle.std.proofs.Common.{◌≡◌, ℕ, ◌<◌, [], length, get_or}
use Rattle.k_terms.specs.SortTable.{IsRow}
use Rattle.k_terms.proofs.sorts.table_rows.Given as goal

abbrev pub invariant-loop-sort : goal.invariant-loop-sort
invariant-loop-sort l = record {
  count : length l.rows.items ≡ l.sort;
  each : (sort : ℕ) → sort < l.sort → IsRow l.steps l.size sort (get_or l.rows.items sort []);
}
