use Rattle.std.proofs.Common.{◌||◌, true, map, sym, ap, ◌∙◌}
use Rattle.std.specs.List.{list_any}
use Rattle.rule_contents.specs.Operators.{is_of_contents, is_operator, said_of_left, has_operator}
use Rattle.rule_contents.proofs.Halves.{left-Leaf, left-Node, left-Items, any_map, no_change, other_parts}
use Rattle.rule_contents.proofs.sides.+left_sides.Goals as goal

pub has_operator-returns-then-is_operator : goal.has_operator-returns-then-is_operator
has_operator-returns-then-is_operator t c =
    sym (ap (has_operator c.args.rules.now) c.in-Node.is ∙ left-Node c.args.rules.now c.in-Node.prod c.in-Node.parts
    ∙ ap (λ b. b || said_of_left (is_of_contents c.args.rules.now c.in-Node.prod) (map (has_operator c.args.rules.now) c.in-Node.parts)) (sym c.is_operator.ensures ∙ c.if-is_operator.true))

pub has_operator-returns-then-is_of_contents : goal.has_operator-returns-then-is_of_contents
has_operator-returns-then-is_of_contents t c =
    c.left_has_operator.ensures ∙ ap (λ parts. said_of_left true (map (has_operator c.args.rules.now) parts)) c.as_slice.ensures
    ∙ sym (ap (has_operator c.args.rules.now) c.in-Node.is ∙ left-Node c.args.rules.now c.in-Node.prod c.in-Node.parts
    ∙ (λ i. (sym c.is_operator.ensures ∙ c.if-is_operator.false) i || said_of_left ((sym c.is_of_contents.ensures ∙ c.if-is_of_contents.true) i) (map (has_operator c.args.rules.now) c.in-Node.parts)))

pub has_operator-returns-in-Leaf : goal.has_operator-returns-in-Leaf
has_operator-returns-in-Leaf t c = sym (ap (has_operator c.args.rules.now) c.in-Leaf.is ∙ left-Leaf c.args.rules.now c.in-Leaf.field-0)

pub has_operator-returns-else-is_of_contents : goal.has_operator-returns-else-is_of_contents
has_operator-returns-else-is_of_contents t c =
    c.any_has_operator.ensures ∙ ap (list_any (has_operator c.args.rules.now)) c.as_slice-in-Node.ensures
    ∙ sym (ap (has_operator c.args.rules.now) c.in-Node.is ∙ left-Node c.args.rules.now c.in-Node.prod c.in-Node.parts
    ∙ other_parts (is_operator c.args.rules.now c.in-Node.prod) (is_of_contents c.args.rules.now c.in-Node.prod) (map (has_operator c.args.rules.now) c.in-Node.parts)
    (sym c.is_operator.ensures ∙ c.if-is_operator.false) (sym c.is_of_contents.ensures ∙ c.if-is_of_contents.false)
    ∙ any_map (has_operator c.args.rules.now) c.in-Node.parts)

pub has_operator-returns-in-Items : goal.has_operator-returns-in-Items
has_operator-returns-in-Items t c =
    c.any_has_operator-in-Items.ensures ∙ ap (list_any (has_operator c.args.rules.now)) c.as_slice-in-Items.ensures
    ∙ sym (ap (has_operator c.args.rules.now) c.in-Items.is ∙ left-Items c.args.rules.now c.in-Items.field-0 c.in-Items.parts c.in-Items.field-2)

pub left_has_operator-returns : goal.left_has_operator-returns
left_has_operator-returns t c = c.any_has_operator.ensures ∙ no_change (has_operator c.args.rules.now) c.args.parts.now c.if-count-eq3.false c.if-count-eq5.false
