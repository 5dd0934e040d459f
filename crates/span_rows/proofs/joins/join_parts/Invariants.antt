use Rattle.std.proofs.Common.{take}
use Rattle.span_rows.specs.Rows.{Adds, Joins, IsMade}
use Rattle.span_rows.proofs.joins.join_parts.Given as goal

abbrev pub invariant-loop-child : goal.invariant-loop-child
invariant-loop-child l = Adds (IsMade (Joins l.grammar l.front) (take l.child-index l.children)) l.initial.rows.items l.rows.items
