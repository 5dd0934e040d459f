use Rattle.span_table.specs.Table.{IsSoundUpTo, AreFullColumns}
use Rattle.span_table.proofs.table.columns_of.Given as goal

abbrev pub invariant-loop-last : goal.invariant-loop-last
invariant-loop-last l = record {
  full : AreFullColumns l.grammar l.tokens l.empty l.columns.items l.last;
  sound : IsSoundUpTo l.grammar l.tokens l.empty l.columns.items l.last;
}
