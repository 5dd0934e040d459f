use Rattle.std.proofs.Common.{rules, true, false, ◌≡◌, ◌++◌, IfOk, refl, sym, ap, ◌∙◌, subst, append-nil}
use Rattle.rule_terms.specs.declared.pattern.Body.{Cells as CellsBody}
use Rattle.rule_parts.specs.Sides.{stands}
use Rattle.rule_drafts.specs.Cells.{cell_with, cells_in, inside_body, all_cells, forest_of}
use Rattle.rule_drafts.proofs.Lists.{added_two}
use Rattle.rule_drafts.proofs.ItemLayers.{cells-Cell, cells-Change, cells-Nothing, body-Cells, body-Content, cells-Same, cells-Changed, no_cell, one_cell}
use Rattle.rule_drafts.proofs.cells.+building.Goals as goal

pub add_item-returns-then-not-stands : goal.add_item-returns-then-not-stands
add_item-returns-then-not-stands t c =
    let away : stands c.args.on_left c.args.side ≡ false = search rules in
    no_cell c.args.found.now.items _ _ _
    (ap (cells_in c.args.grammar.now c.args.leaves.now c.args.cells.now c.args.readings.now c.args.vars.now c.args.tokens.now c.args.on_left c.args.side) c.in-Cell.is ∙ cells-Cell c.args.grammar.now c.args.leaves.now c.args.cells.now c.args.readings.now c.args.vars.now c.args.tokens.now c.args.on_left c.args.side c.in-Cell.cell) away

pub add_item-returns-in_ok-push-in-Cell : goal.add_item-returns-in_ok-push-in-Cell
add_item-returns-in_ok-push-in-Cell t c =
    let here : stands c.args.on_left c.args.side ≡ true = search rules in
    let inner = inside_body c.args.grammar.now c.args.leaves.now c.args.cells.now c.args.readings.now c.args.vars.now c.args.tokens.now c.args.on_left c.args.side in
    one_cell c.args.found.now.items c.push.new.self.items _ _ _ _ c.in_ok-push-in-Cell.ensures.items
    (c.in_ok-cell_of-in-Cell.ensures
    ∙ ap (cell_with c.args.tokens.now c.tag_of-tag.result) c.in_ok-body-in-Cell.ensures
    ∙ ap (λ tag. cell_with c.args.tokens.now tag (inner tag c.in-Cell.cell.inside)) c.tag_of-tag.ensures)
    (ap (cells_in c.args.grammar.now c.args.leaves.now c.args.cells.now c.args.readings.now c.args.vars.now c.args.tokens.now c.args.on_left c.args.side) c.in-Cell.is ∙ cells-Cell c.args.grammar.now c.args.leaves.now c.args.cells.now c.args.readings.now c.args.vars.now c.args.tokens.now c.args.on_left c.args.side c.in-Cell.cell) here

pub add_item-returns-in_ok-add_items-in-Change : goal.add_item-returns-in_ok-add_items-in-Change
add_item-returns-in_ok-add_items-in-Change t c =
    let of = forest_of c.args.grammar.now c.args.leaves.now c.args.cells.now c.args.readings.now c.args.vars.now c.args.tokens.now c.args.on_left in
    let front = of c.left.result c.as_slice-left.result.now in
    let back = of c.right.result c.as_slice-right.result.now in
    let whole : front ++ back ≡ cells_in c.args.grammar.now c.args.leaves.now c.args.cells.now c.args.readings.now c.args.vars.now c.args.tokens.now c.args.on_left c.args.side c.args.item.now =
    (λ i. of (c.left.ensures i) (c.as_slice-left.ensures i) ++ of (c.right.ensures i) (c.as_slice-right.ensures i))
    ∙ sym (ap (cells_in c.args.grammar.now c.args.leaves.now c.args.cells.now c.args.readings.now c.args.vars.now c.args.tokens.now c.args.on_left c.args.side) c.in-Change.is ∙ cells-Change c.args.grammar.now c.args.leaves.now c.args.cells.now c.args.readings.now c.args.vars.now c.args.tokens.now c.args.on_left c.args.side c.in-Change.start c.in-Change.left c.in-Change.right) in
    subst (λ v. IfOk c.add_items-in-Change.result (λ _. c.add_items-in-Change.new.found.items ≡ v))
    (added_two c.args.found.now.items c.add_items.new.found.items (c.add_items.new.found.items ++ back) front back c.in_ok-add_items-in-Change.ensures refl
    ∙ ap (λ v. c.args.found.now.items ++ v) whole)
    c.add_items-in-Change.ensures

pub add_item-returns-in-Nothing : goal.add_item-returns-in-Nothing
add_item-returns-in-Nothing t c =
    sym (append-nil c.args.found.now.items)
    ∙ ap (λ found. c.args.found.now.items ++ found)
    (sym (ap (cells_in c.args.grammar.now c.args.leaves.now c.args.cells.now c.args.readings.now c.args.vars.now c.args.tokens.now c.args.on_left c.args.side) c.in-Nothing.is ∙ cells-Nothing c.args.grammar.now c.args.leaves.now c.args.cells.now c.args.readings.now c.args.vars.now c.args.tokens.now c.args.on_left c.args.side c.in-Nothing.at))

pub body_inside-returns-in_ok-dots_number-in-Cells : goal.body_inside-returns-in_ok-dots_number-in-Cells
body_inside-returns-in_ok-dots_number-in-Cells t c =
    let cells = all_cells c.args.grammar.now c.args.leaves.now c.args.cells.now c.args.readings.now c.args.vars.now c.args.tokens.now c.args.on_left c.args.side c.in-Cells.inner in
    let inner : c.from_vec.result ≡ cells = c.from_vec.ensures ∙ c.in_ok-add_all-in-Cells.ensures ∙ ap (λ xs. xs ++ cells) c.new-found.ensures.items in
    (λ i. CellsBody (inner i) (c.in_ok-dots_number-in-Cells.ensures i))
    ∙ sym (ap (inside_body c.args.grammar.now c.args.leaves.now c.args.cells.now c.args.readings.now c.args.vars.now c.args.tokens.now c.args.on_left c.args.side c.args.tag) c.in-Cells.is ∙ body-Cells c.args.grammar.now c.args.leaves.now c.args.cells.now c.args.readings.now c.args.vars.now c.args.tokens.now c.args.on_left c.args.side c.args.tag c.in-Cells.inner)

pub body_inside-returns-in-Content : goal.body_inside-returns-in-Content
body_inside-returns-in-Content t c =
    subst (λ v. IfOk c.content_body.result (λ body. body ≡ v))
    (sym (ap (inside_body c.args.grammar.now c.args.leaves.now c.args.cells.now c.args.readings.now c.args.vars.now c.args.tokens.now c.args.on_left c.args.side c.args.tag) c.in-Content.is ∙ body-Content c.args.grammar.now c.args.leaves.now c.args.cells.now c.args.readings.now c.args.vars.now c.args.tokens.now c.args.on_left c.args.side c.args.tag c.in-Content.first c.in-Content.past))
    c.content_body.ensures

pub add_all-returns-in-Same : goal.add_all-returns-in-Same
add_all-returns-in-Same t c =
    subst (λ v. IfOk c.add_items.result (λ _. c.add_items.new.found.items ≡ c.args.found.now.items ++ v))
    (ap (forest_of c.args.grammar.now c.args.leaves.now c.args.cells.now c.args.readings.now c.args.vars.now c.args.tokens.now c.args.on_left c.args.side) c.as_slice.ensures
    ∙ sym (ap (all_cells c.args.grammar.now c.args.leaves.now c.args.cells.now c.args.readings.now c.args.vars.now c.args.tokens.now c.args.on_left c.args.side) c.in-Same.is ∙ cells-Same c.args.grammar.now c.args.leaves.now c.args.cells.now c.args.readings.now c.args.vars.now c.args.tokens.now c.args.on_left c.args.side c.in-Same.items))
    c.add_items.ensures

pub add_all-returns-in_ok-add_items-in-Change : goal.add_all-returns-in_ok-add_items-in-Change
add_all-returns-in_ok-add_items-in-Change t c =
    let of = forest_of c.args.grammar.now c.args.leaves.now c.args.cells.now c.args.readings.now c.args.vars.now c.args.tokens.now c.args.on_left in
    let front = of c.left.result c.as_slice-left.result.now in
    let back = of c.right.result c.as_slice-right.result.now in
    let whole : front ++ back ≡ all_cells c.args.grammar.now c.args.leaves.now c.args.cells.now c.args.readings.now c.args.vars.now c.args.tokens.now c.args.on_left c.args.side c.args.inner.now =
    (λ i. of (c.left.ensures i) (c.as_slice-left.ensures i) ++ of (c.right.ensures i) (c.as_slice-right.ensures i))
    ∙ sym (ap (all_cells c.args.grammar.now c.args.leaves.now c.args.cells.now c.args.readings.now c.args.vars.now c.args.tokens.now c.args.on_left c.args.side) c.in-Change.is ∙ cells-Changed c.args.grammar.now c.args.leaves.now c.args.cells.now c.args.readings.now c.args.vars.now c.args.tokens.now c.args.on_left c.args.side c.in-Change.left c.in-Change.right) in
    subst (λ v. IfOk c.add_items-in-Change-2.result (λ _. c.add_items-in-Change-2.new.found.items ≡ v))
    (added_two c.args.found.now.items c.add_items-in-Change.new.found.items (c.add_items-in-Change.new.found.items ++ back) front back c.in_ok-add_items-in-Change.ensures refl
    ∙ ap (λ v. c.args.found.now.items ++ v) whole)
    c.add_items-in-Change-2.ensures
