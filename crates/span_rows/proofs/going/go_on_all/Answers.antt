use Rattle.span_rows.specs.Rows.{GoesOn}
use Rattle.span_rows.proofs.Adding.{adds_first, adds_at, adds_done}
use Rattle.span_rows.proofs.going.go_on_all.Goals as goal

pub loop-front-init : goal.loop-front-init
loop-front-init c = adds_first (GoesOn c.args.grammar.now c.args.tokens.now c.args.at) c.args.fronts.now c.args.rows.now.items

pub loop-front-preserved : goal.loop-front-preserved
loop-front-preserved c =
    adds_at (GoesOn c.args.grammar.now c.args.tokens.now c.args.at) c.args.fronts.now c.loop-front.front-index c.front-item.result _ _ _ c.loop-front-test.true c.front-item.is c.loop-front.invariant c.in_ok-go_on.ensures

pub returns : goal.returns
returns c = adds_done (GoesOn c.args.grammar.now c.args.tokens.now c.args.at) c.args.fronts.now c.loop-front.front-index _ _ c.loop-front-test.false c.loop-front.invariant
