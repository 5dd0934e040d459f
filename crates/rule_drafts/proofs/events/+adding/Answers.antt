use Rattle.std.proofs.Common.{◌≡◌, ◌++◌, [], ◌∷◌, IfOk, refl, sym, ap, ◌∙◌, subst, append-nil}
use Rattle.rule_drafts.specs.declared.events.Event.TheVariants.{Begin, End}
use Rattle.rule_drafts.specs.Cells.{nested_event, events_in, inside_events, all_events, events_of}
use Rattle.rule_drafts.proofs.Lists.{added_two, added_three}
use Rattle.rule_drafts.proofs.ItemLayers.{events-Cell, events-Change, events-Nothing, events-Cells, events-Content, events-Same, events-Changed}
use Rattle.rule_drafts.proofs.events.+adding.Goals as goal

pub add_item-returns-in-Cell : goal.add_item-returns-in-Cell
add_item-returns-in-Cell t c =
    subst (λ v. IfOk c.add_inside.result (λ _. c.add_inside.new.events.items ≡ c.args.events.now.items ++ v))
    (ap (λ tag. inside_events c.args.side tag c.in-Cell.cell.inside) c.tag_of.ensures ∙ sym (ap (events_in c.args.side) c.in-Cell.is ∙ events-Cell c.args.side c.in-Cell.cell))
    c.add_inside.ensures

pub add_item-returns-in_ok-add_items-in-Change : goal.add_item-returns-in_ok-add_items-in-Change
add_item-returns-in_ok-add_items-in-Change t c =
    let front = nested_event c.in-Change.start c.args.side in
    let middle = events_of c.left.result c.as_slice.result.now in
    let back = events_of c.right.result c.as_slice-in-Change.result.now in
    let whole : front ++ middle ++ back ≡ events_in c.args.side c.args.item.now =
    (λ i. nested_event c.in-Change.start c.args.side ++ events_of (c.left.ensures i) (c.as_slice.ensures i) ++ events_of (c.right.ensures i) (c.as_slice-in-Change.ensures i))
    ∙ sym (ap (events_in c.args.side) c.in-Change.is ∙ events-Change c.args.side c.in-Change.start c.in-Change.left c.in-Change.right) in
    subst (λ v. IfOk c.add_items-in-Change.result (λ _. c.add_items-in-Change.new.events.items ≡ v))
    (ap (λ v. v ++ back) (added_two c.args.events.now.items c.add_nested.new.events.items c.add_items.new.events.items front middle
    c.in_ok-add_nested-in-Change.ensures c.in_ok-add_items-in-Change.ensures)
    ∙ added_two c.args.events.now.items (c.args.events.now.items ++ (front ++ middle)) (c.args.events.now.items ++ (front ++ middle) ++ back) (front ++ middle) back refl refl
    ∙ ap (λ v. c.args.events.now.items ++ v) whole)
    c.add_items-in-Change.ensures

pub add_item-returns-in-Nothing : goal.add_item-returns-in-Nothing
add_item-returns-in-Nothing t c =
    sym (append-nil c.args.events.now.items)
    ∙ ap (λ events. c.args.events.now.items ++ events) (sym (ap (events_in c.args.side) c.in-Nothing.is ∙ events-Nothing c.args.side c.in-Nothing.at))

pub add_inside-returns-in_ok-push-in-Cells-2 : goal.add_inside-returns-in_ok-push-in-Cells-2
add_inside-returns-in_ok-push-in-Cells-2 t c =
    added_three c.args.events.now.items c.push.new.self.items c.add_all.new.events.items c.push-in-Cells.new.self.items
    (Begin c.args.side c.args.tag ∷ []) (all_events c.args.side c.in_ok-behind-in-Cells.field-0 c.in-Cells.cells) (End c.args.side c.args.tag ∷ [])
    c.in_ok-push-in-Cells.ensures.items c.in_ok-add_all-in-Cells.ensures c.in_ok-push-in-Cells-2.ensures.items
    ∙ ap (λ events. c.args.events.now.items ++ events)
    (ap (λ at. (Begin c.args.side c.args.tag ∷ all_events c.args.side at c.in-Cells.cells) ++ End c.args.side c.args.tag ∷ []) c.in_ok-behind-in-Cells.ensures
    ∙ sym (ap (inside_events c.args.side c.args.tag) c.in-Cells.is ∙ events-Cells c.args.side c.args.tag c.in-Cells.cells))

pub add_inside-returns-in_ok-push-in-Content : goal.add_inside-returns-in_ok-push-in-Content
add_inside-returns-in_ok-push-in-Content t c =
    c.in_ok-push-in-Content.ensures.items
    ∙ ap (λ events. c.args.events.now.items ++ events)
    (sym (ap (inside_events c.args.side c.args.tag) c.in-Content.is ∙ events-Content c.args.side c.args.tag c.in-Content.first c.in-Content.past))

pub add_all-returns-in-Same : goal.add_all-returns-in-Same
add_all-returns-in-Same t c =
    subst (λ v. IfOk c.add_items.result (λ _. c.add_items.new.events.items ≡ c.args.events.now.items ++ v))
    (ap (events_of c.args.side) c.as_slice.ensures ∙ sym (ap (all_events c.args.side c.args.at) c.in-Same.is ∙ events-Same c.args.side c.args.at c.in-Same.items))
    c.add_items.ensures

pub add_all-returns-in_ok-add_items-in-Change : goal.add_all-returns-in_ok-add_items-in-Change
add_all-returns-in_ok-add_items-in-Change t c =
    let front = nested_event c.args.at c.args.side in
    let middle = events_of c.left.result c.as_slice-in-Change.result.now in
    let back = events_of c.right.result c.as_slice-in-Change-2.result.now in
    let whole : front ++ middle ++ back ≡ all_events c.args.side c.args.at c.args.cells.now =
    (λ i. nested_event c.args.at c.args.side ++ events_of (c.left.ensures i) (c.as_slice-in-Change.ensures i) ++ events_of (c.right.ensures i) (c.as_slice-in-Change-2.ensures i))
    ∙ sym (ap (all_events c.args.side c.args.at) c.in-Change.is ∙ events-Changed c.args.side c.args.at c.in-Change.left c.in-Change.right) in
    subst (λ v. IfOk c.add_items-in-Change-2.result (λ _. c.add_items-in-Change-2.new.events.items ≡ v))
    (ap (λ v. v ++ back) (added_two c.args.events.now.items c.add_nested.new.events.items c.add_items-in-Change.new.events.items front middle
    c.in_ok-add_nested-in-Change.ensures c.in_ok-add_items-in-Change.ensures)
    ∙ added_two c.args.events.now.items (c.args.events.now.items ++ (front ++ middle)) (c.args.events.now.items ++ (front ++ middle) ++ back) (front ++ middle) back refl refl
    ∙ ap (λ v. c.args.events.now.items ++ v) whole)
    c.add_items-in-Change-2.ensures
