use Rattle.std.proofs.Common.{◌≡◌, ◌++◌, List, [], ◌∷◌, IfOk, refl, sym, ap, ◌∙◌, subst}
use Rattle.std.proofs.lemmas.List.{append-nil, append_assoc}
use Rattle.std.specs.List.{flat_map}
use Rattle.rule_reader.specs.Contents.{contents_in, inside_contents, side_contents}
use Rattle.rule_reader.proofs.Layers.{side-Same, side-Change, inside-Cells, inside-Content, item-Cell, item-Change, item-Nothing, two_parts}
use Rattle.rule_reader.proofs.contents.+contents.Goals as goal

pub add_inside-returns-in-Cells : goal.add_inside-returns-in-Cells
add_inside-returns-in-Cells t c =
    subst (λ v. IfOk c.add_side.result (λ _. c.add_side.new.found.items ≡ c.args.found.now.items ++ v))
    (sym (ap (inside_contents c.args.side c.args.cell) c.in-Cells.is ∙ inside-Cells c.args.side c.args.cell c.in-Cells.cells)) c.add_side.ensures

pub add_inside-returns-in_ok-push-in-Content : goal.add_inside-returns-in_ok-push-in-Content
add_inside-returns-in_ok-push-in-Content t c =
    c.in_ok-push-in-Content.ensures.items
    ∙ ap (λ new. c.args.found.now.items ++ record { cell = c.args.cell; is_new = new; first = c.in-Content.first; past = c.in-Content.past } ∷ []) c.is_new-is_new.ensures
    ∙ ap (λ v. c.args.found.now.items ++ v)
    (sym (ap (inside_contents c.args.side c.args.cell) c.in-Content.is ∙ inside-Content c.args.side c.args.cell c.in-Content.first c.in-Content.past))

pub add_item-returns-in-Cell : goal.add_item-returns-in-Cell
add_item-returns-in-Cell t c =
    subst (λ v. IfOk c.add_inside.result (λ _. c.add_inside.new.found.items ≡ c.args.found.now.items ++ v))
    (sym (ap (contents_in c.args.side) c.in-Cell.is ∙ item-Cell c.args.side c.in-Cell.cell)) c.add_inside.ensures

pub add_item-returns-in_ok-add_items-in-Change : goal.add_item-returns-in_ok-add_items-in-Change
add_item-returns-in_ok-add_items-in-Change t c =
    subst (λ v. IfOk c.add_items-in-Change.result (λ _. c.add_items-in-Change.new.found.items ≡ v))
    (two_parts c.args.found.now.items c.add_items.new.found.items c.left.result c.right.result c.args.side c.as_slice.result.now c.as_slice-in-Change.result.now
    c.in-Change.left c.in-Change.right (contents_in c.args.side c.args.item.now) c.left.ensures c.right.ensures c.as_slice.ensures c.as_slice-in-Change.ensures
    c.in_ok-add_items-in-Change.ensures (ap (contents_in c.args.side) c.in-Change.is ∙ item-Change c.args.side c.in-Change.start c.in-Change.left c.in-Change.right))
    c.add_items-in-Change.ensures

pub add_item-returns-in-Nothing : goal.add_item-returns-in-Nothing
add_item-returns-in-Nothing t c =
    sym (append-nil c.args.found.now.items) ∙ ap (λ v. c.args.found.now.items ++ v) (sym (ap (contents_in c.args.side) c.in-Nothing.is ∙ item-Nothing c.args.side c.in-Nothing.at))

pub add_side-returns-in-Same : goal.add_side-returns-in-Same
add_side-returns-in-Same t c =
    subst (λ v. IfOk c.add_items.result (λ _. c.add_items.new.found.items ≡ c.args.found.now.items ++ v))
    (ap (flat_map (contents_in c.args.side)) c.as_slice.ensures ∙ sym (ap (side_contents c.args.side) c.in-Same.is ∙ side-Same c.args.side c.in-Same.items)) c.add_items.ensures

pub add_side-returns-in_ok-add_items-in-Change : goal.add_side-returns-in_ok-add_items-in-Change
add_side-returns-in_ok-add_items-in-Change t c =
    subst (λ v. IfOk c.add_items-in-Change-2.result (λ _. c.add_items-in-Change-2.new.found.items ≡ v))
    (two_parts c.args.found.now.items c.add_items-in-Change.new.found.items c.left.result c.right.result c.args.side c.as_slice-in-Change.result.now c.as_slice-in-Change-2.result.now
    c.in-Change.left c.in-Change.right (side_contents c.args.side c.args.cells.now) c.left.ensures c.right.ensures c.as_slice-in-Change.ensures c.as_slice-in-Change-2.ensures
    c.in_ok-add_items-in-Change.ensures (ap (side_contents c.args.side) c.in-Change.is ∙ side-Change c.args.side c.in-Change.left c.in-Change.right))
    c.add_items-in-Change-2.ensures
