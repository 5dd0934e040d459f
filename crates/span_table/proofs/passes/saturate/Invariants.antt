use Rattle.std.proofs.Common.{◌-◌, ◌^◌, length}
use Rattle.grammar_terms.specs.Cuts.{Has}
use Rattle.span_rows.specs.declared.row.Row.{Row}
use Rattle.span_table.specs.Table.{KeepsSound}
use Rattle.span_table.proofs.passes.saturate.Given as goal

abbrev pub invariant-loop-made : goal.invariant-loop-made
invariant-loop-made l = record {
  grows : (made : Row) → Has l.initial.rows.items made → Has l.rows.items made;
  sound : KeepsSound l.grammar l.empty l.initial.rows.items l.rows.items;
}

abbrev pub decreases-loop-made : goal.decreases-loop-made
decreases-loop-made l = 2 ^ 64 - length l.rows.items
