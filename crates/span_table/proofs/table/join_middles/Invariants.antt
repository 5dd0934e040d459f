use Rattle.span_rows.specs.Rows.{Adds}
use Rattle.span_table.proofs.Spanning.{MiddleUpTo}
use Rattle.span_table.proofs.table.join_middles.Given as goal

abbrev pub invariant-loop-middle : goal.invariant-loop-middle
invariant-loop-middle l = Adds (MiddleUpTo l.grammar l.spans.empty.now l.spans.columns.now l.spans.column.now l.from l.last l.middle) l.initial.rows.items l.rows.items
