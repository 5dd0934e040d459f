use Rattle.span_rows.specs.Rows.{Finishes}
use Rattle.span_rows.proofs.Adding.{adds_first, adds_at, adds_done}
use Rattle.span_rows.proofs.finishes.finish_all.Goals as goal

pub loop-front-init : goal.loop-front-init
loop-front-init c = adds_first (Finishes c.args.grammar.now) c.args.fronts.now c.args.rows.now.items

pub loop-front-preserved : goal.loop-front-preserved
loop-front-preserved c =
    adds_at (Finishes c.args.grammar.now) c.args.fronts.now c.loop-front.front-index c.front-item.result _ _ _ c.loop-front-test.true c.front-item.is c.loop-front.invariant c.in_ok-finish.ensures

pub returns : goal.returns
returns c = adds_done (Finishes c.args.grammar.now) c.args.fronts.now c.loop-front.front-index _ _ c.loop-front-test.false c.loop-front.invariant
