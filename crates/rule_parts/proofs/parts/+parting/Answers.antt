use Rattle.std.proofs.Common.{◌≡◌, ◌++◌, IfOk, sym, ap, ◌∙◌, subst, append-nil}
use Rattle.std.specs.List.{flat_map}
use Rattle.rule_parts.specs.Parts.{parts_in, parts_by, seen_parts}
use Rattle.rule_parts.proofs.PartLayers.{parts-Leaf, parts-Node, parts-Items}
use Rattle.rule_parts.proofs.parts.+parting.Goals as goal

pub add_parts-returns-in-Leaf : goal.add_parts-returns-in-Leaf
add_parts-returns-in-Leaf t c =
    let before = seen_parts c.args.parts.now.items in
    sym (append-nil before)
    ∙ ap (λ parts. before ++ parts) (sym (ap (parts_in c.args.kind c.args.count c.args.side) c.in-Leaf.is ∙ parts-Leaf c.args.kind c.args.count c.args.side c.in-Leaf.field-0))

pub add_parts-returns-in-Node : goal.add_parts-returns-in-Node
add_parts-returns-in-Node t c =
    subst (λ v. IfOk c.add_role.result (λ _. seen_parts c.add_role.new.parts.items ≡ seen_parts c.args.parts.now.items ++ v))
    ((λ i. parts_by c.args.kind c.args.count (c.role_by.ensures i) c.args.side (c.as_slice.ensures i))
    ∙ sym (ap (parts_in c.args.kind c.args.count c.args.side) c.in-Node.is ∙ parts-Node c.args.kind c.args.count c.args.side c.in-Node.prod c.in-Node.shapes))
    c.add_role.ensures

pub add_parts-returns-in-Items : goal.add_parts-returns-in-Items
add_parts-returns-in-Items t c =
    subst (λ v. IfOk c.add_all.result (λ _. seen_parts c.add_all.new.parts.items ≡ seen_parts c.args.parts.now.items ++ v))
    (ap (flat_map (parts_in c.args.kind c.args.count c.args.side)) c.as_slice-in-Items.ensures
    ∙ sym (ap (parts_in c.args.kind c.args.count c.args.side) c.in-Items.is ∙ parts-Items c.args.kind c.args.count c.args.side c.in-Items.field-0 c.in-Items.shapes c.in-Items.field-2))
    c.add_all.ensures
