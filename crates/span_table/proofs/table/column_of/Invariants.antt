use Rattle.span_table.specs.Table.{IsSoundUpTo, IsSoundColumn, IsFullColumn}
use Rattle.span_table.proofs.table.column_of.Given as goal

abbrev pub invariant-loop-width : goal.invariant-loop-width
invariant-loop-width l = record {
  full : IsFullColumn l.grammar l.tokens l.empty l.columns l.last l.column.items l.width;
  sound : IsSoundUpTo l.grammar l.tokens l.empty l.columns l.last → IsSoundColumn l.grammar l.tokens l.last l.column.items l.width;
}
