use Rattle.std.proofs.Common.{take}
use Rattle.span_rows.specs.Rows.{Adds, GoesOn, IsMade}
use Rattle.span_rows.proofs.going.go_on_all.Given as goal

abbrev pub invariant-loop-front : goal.invariant-loop-front
invariant-loop-front l = Adds (IsMade (GoesOn l.grammar l.tokens l.at) (take l.front-index l.fronts)) l.initial.rows.items l.rows.items
