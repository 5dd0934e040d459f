use Rattle.std.proofs.Common.{◌≡◌, length}
use Rattle.k_terms.specs.SortTable.{unmarked}
use Rattle.sorted_grammar.specs.Marks.{IsSound}
use Rattle.sorted_grammar.proofs.nullable.nullable_row.Given as goal

abbrev pub invariant-loop-sort : goal.invariant-loop-sort
invariant-loop-sort l = record { long : length l.row.items ≡ length l.grammar.names; sound : IsSound l.grammar l.row.items }

abbrev pub decreases-loop-sort : goal.decreases-loop-sort
decreases-loop-sort l = unmarked l.row.items
