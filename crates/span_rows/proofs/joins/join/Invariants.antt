use Rattle.std.proofs.Common.{take}
use Rattle.span_rows.specs.Rows.{Adds, Grows, IsMade}
use Rattle.span_rows.proofs.joins.join.Given as goal

abbrev pub invariant-loop-front : goal.invariant-loop-front
invariant-loop-front l = Adds (IsMade (λ front. IsMade (Grows l.grammar front) l.children) (take l.front-index l.fronts)) l.initial.rows.items l.rows.items
