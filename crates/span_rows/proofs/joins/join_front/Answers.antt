use Rattle.span_rows.proofs.Adding.{adds_grown}
use Rattle.span_rows.proofs.joins.join_front.Goals as goal

pub returns : goal.returns
returns c = adds_grown c.args.grammar.now c.args.front.now c.args.children.now _ _ _ c.in_ok-join_items.ensures c.in_ok-join_parts.ensures
