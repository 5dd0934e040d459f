use Rattle.std.proofs.Common.{◌++◌, ap, ◌∙◌}
use Rattle.std.specs.Prelude.{Some}
use Rattle.std.specs.List.{flat_map}
use Rattle.rule_completion.specs.Writing.{cells_at}
use Rattle.rule_completion.proofs.Written.{with_cells, without_cells}
use Rattle.rule_completion.proofs.writing.+walking.Goals as goal

pub add_cell-returns-in_ok-add_cells-in-Cells : goal.add_cell-returns-in_ok-add_cells-in-Cells
add_cell-returns-in_ok-add_cells-in-Cells t c =
    with_cells c.args.cells.now.items c.add_cells.new.cells.items c.args.above c.args.cell.now c.in-Cells.inside c.as_slice.result.now c.in-Cells.field-1
    c.in-Cells.is c.as_slice.ensures
    (c.in_ok-add_cells-in-Cells.ensures ∙ ap (λ ws. ws ++ flat_map (cells_at (Some c.args.cell.now.mark)) c.as_slice.result.now) c.in_ok-push.ensures.items)

pub add_cell-returns-in_default : goal.add_cell-returns-in_default
add_cell-returns-in_default t c = without_cells c.args.cells.now.items _ c.args.above c.args.cell.now c.in_default.not-Cells c.in_ok-push.ensures.items
