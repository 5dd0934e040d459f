use Rattle.std.proofs.Common.{take}
use Rattle.span_rows.specs.Rows.{Adds, Finishes, IsMade}
use Rattle.span_rows.proofs.finishes.finish_all.Given as goal

abbrev pub invariant-loop-front : goal.invariant-loop-front
invariant-loop-front l = Adds (IsMade (Finishes l.grammar) (take l.front-index l.fronts)) l.initial.rows.items l.rows.items
