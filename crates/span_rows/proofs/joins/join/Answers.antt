use Rattle.span_rows.specs.Rows.{Grows, IsMade}
use Rattle.span_rows.proofs.Adding.{adds_first, adds_at, adds_done, adds_join}
use Rattle.span_rows.proofs.joins.join.Goals as goal

pub loop-front-init : goal.loop-front-init
loop-front-init c = adds_first (λ front. IsMade (Grows c.args.grammar.now front) c.args.children.now) c.args.fronts.now c.args.rows.now.items

pub loop-front-preserved : goal.loop-front-preserved
loop-front-preserved c =
    adds_at (λ front. IsMade (Grows c.args.grammar.now front) c.args.children.now) c.args.fronts.now c.loop-front.front-index c.front-item.result _ _ _ c.loop-front-test.true c.front-item.is c.loop-front.invariant c.in_ok-join_front.ensures

pub returns : goal.returns
returns c = adds_join _ _ _ _ _ (adds_done (λ front. IsMade (Grows c.args.grammar.now front) c.args.children.now) c.args.fronts.now c.loop-front.front-index _ _ c.loop-front-test.false c.loop-front.invariant)
