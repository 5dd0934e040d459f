use Rattle.span_rows.specs.Rows.{Joins}
use Rattle.span_rows.proofs.Adding.{adds_first, adds_at, adds_done}
use Rattle.span_rows.proofs.joins.join_parts.Goals as goal

pub loop-child-init : goal.loop-child-init
loop-child-init c = adds_first (Joins c.args.grammar.now c.args.front.now) c.args.children.now c.args.rows.now.items

pub loop-child-preserved : goal.loop-child-preserved
loop-child-preserved c =
    adds_at (Joins c.args.grammar.now c.args.front.now) c.args.children.now c.loop-child.child-index c.child-item.result _ _ _ c.loop-child-test.true c.child-item.is c.loop-child.invariant c.in_ok-join_part.ensures

pub returns : goal.returns
returns c = adds_done (Joins c.args.grammar.now c.args.front.now) c.args.children.now c.loop-child.child-index _ _ c.loop-child-test.false c.loop-child.invariant
