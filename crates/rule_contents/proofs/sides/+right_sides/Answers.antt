use Rattle.std.proofs.Common.{sym, ap, ◌∙◌}
use Rattle.std.specs.List.{list_any}
use Rattle.rule_contents.specs.Operators.{is_of_contents, is_right_of, is_on_right}
use Rattle.rule_contents.proofs.Halves.{right-Leaf, right-Node, right-Items, on_right_here, on_right_inside, not_of_contents, not_right_of}
use Rattle.rule_contents.proofs.sides.+right_sides.Goals as goal
use Rattle.rule_contents.proofs.sides.+right_sides.Goals.{is_on_right-else-is_of_contents-via-then-is_of_contents+else-is_right_of, is_on_right-else-is_of_contents-via-else-is_of_contents}

pub is_on_right-returns-then-is_right_of : goal.is_on_right-returns-then-is_right_of
is_on_right-returns-then-is_right_of t c =
    sym (ap (is_on_right c.args.rules.now c.args.at) c.in-Node.is ∙ right-Node c.args.rules.now c.args.at c.in-Node.prod c.in-Node.parts
    ∙ on_right_here (is_of_contents c.args.rules.now c.in-Node.prod) (is_right_of c.args.at c.in-Node.parts) (list_any (is_on_right c.args.rules.now c.args.at) c.in-Node.parts)
    (sym c.is_of_contents.ensures ∙ c.if-is_of_contents.true)
    (ap (is_right_of c.args.at) (sym c.as_slice.ensures) ∙ sym c.is_right_of.ensures ∙ c.if-is_right_of.true))

pub is_on_right-returns-in-Leaf : goal.is_on_right-returns-in-Leaf
is_on_right-returns-in-Leaf t c = sym (ap (is_on_right c.args.rules.now c.args.at) c.in-Leaf.is ∙ right-Leaf c.args.rules.now c.args.at c.in-Leaf.field-0)

pub is_on_right-returns-else-is_of_contents : goal.is_on_right-returns-else-is_of_contents
is_on_right-returns-else-is_of_contents t c =
    c.any_on_right.ensures ∙ ap (list_any (is_on_right c.args.rules.now c.args.at)) c.as_slice-in-Node.ensures
    ∙ sym (ap (is_on_right c.args.rules.now c.args.at) c.in-Node.is ∙ right-Node c.args.rules.now c.args.at c.in-Node.prod c.in-Node.parts
    ∙ on_right_inside (is_of_contents c.args.rules.now c.in-Node.prod) (is_right_of c.args.at c.in-Node.parts) (list_any (is_on_right c.args.rules.now c.args.at) c.in-Node.parts)
    (elim c.else-is_of_contents.branch [
      | is_on_right-else-is_of_contents-via-then-is_of_contents+else-is_right_of w ↦
          not_right_of (is_of_contents c.args.rules.now c.in-Node.prod) (is_right_of c.args.at c.in-Node.parts) (sym c.is_of_contents.ensures ∙ w.if-is_of_contents.true)
          (ap (is_right_of c.args.at) (sym w.as_slice.ensures) ∙ sym w.is_right_of.ensures ∙ w.if-is_right_of.false)
      | is_on_right-else-is_of_contents-via-else-is_of_contents w ↦
          not_of_contents (is_of_contents c.args.rules.now c.in-Node.prod) (is_right_of c.args.at c.in-Node.parts) (sym c.is_of_contents.ensures ∙ w.if-is_of_contents.false)
    ]))

pub is_on_right-returns-in-Items : goal.is_on_right-returns-in-Items
is_on_right-returns-in-Items t c =
    c.any_on_right-in-Items.ensures ∙ ap (list_any (is_on_right c.args.rules.now c.args.at)) c.as_slice-in-Items.ensures
    ∙ sym (ap (is_on_right c.args.rules.now c.args.at) c.in-Items.is ∙ right-Items c.args.rules.now c.args.at c.in-Items.field-0 c.in-Items.parts c.in-Items.field-2)
