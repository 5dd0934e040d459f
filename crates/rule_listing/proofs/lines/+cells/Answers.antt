use Rattle.std.proofs.Common.{◌++◌, ◌∙◌, sym, ap}
use Rattle.std.proofs.lemmas.List.{append-nil}
use Rattle.rule_listing.proofs.Listed.{cells_in, none_in, cells_kept}
use Rattle.rule_listing.proofs.lines.+cells.Goals as goal

pub add_cells-loop-cell-preserved : goal.add_cells-loop-cell-preserved
add_cells-loop-cell-preserved t c =
    cells_kept c.args.cells.now c.loop-cell.cell-index c.cell-item.result _ _ _ c.loop-cell-test.true c.cell-item.is c.loop-cell.invariant c.in_ok-add_cell.ensures

pub add_inner-returns-in_default : goal.add_inner-returns-in_default
add_inner-returns-in_default t c = λ above.
    sym (append-nil c.args.found.now.items) ∙ ap (λ ns. c.args.found.now.items ++ ns) (sym (none_in above c.args.body.now c.in_default.not-Cells))

pub add_inner-returns : goal.add_inner-returns
add_inner-returns t c = λ above.
    c.in_ok-add_cells.ensures
    ∙ ap (λ ns. c.args.found.now.items ++ ns) (cells_in above c.args.body.now c.in-Cells.cells c.as_slice.result.now c.in-Cells.field-1 c.in-Cells.is c.as_slice.ensures)
