use Rattle.span_rows.specs.Rows.{Extends}
use Rattle.span_rows.proofs.Adding.{adds_first, adds_at, adds_done}
use Rattle.span_rows.proofs.joins.join_children.Goals as goal

pub loop-child-init : goal.loop-child-init
loop-child-init c = adds_first (Extends c.args.grammar.now c.args.front.now) c.args.children.now c.args.rows.now.items

pub loop-child-preserved : goal.loop-child-preserved
loop-child-preserved c =
    adds_at (Extends c.args.grammar.now c.args.front.now) c.args.children.now c.loop-child.child-index c.child-item.result _ _ _ c.loop-child-test.true c.child-item.is c.loop-child.invariant c.in_ok-join_child.ensures

pub returns : goal.returns
returns c = adds_done (Extends c.args.grammar.now c.args.front.now) c.args.children.now c.loop-child.child-index _ _ c.loop-child-test.false c.loop-child.invariant
