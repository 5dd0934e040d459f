use Rattle.std.proofs.Common.{◌-◌, ◌^◌, min, length, sym, ap, ◌∙◌}
use Rattle.rule_terms.proofs.SpotCounts.{spots_of_cells, no_spots}
use Rattle.rule_terms.proofs.counts.+counting.Goals as goal

pub cells_in-returns-in-Cells : goal.cells_in-returns-in-Cells
cells_in-returns-in-Cells t c = λ above.
    c.cells_among.ensures above ∙ ap (λ ps. min (length ps) (2 ^ 32 - 1)) (sym (spots_of_cells above c.args.body.now c.in-Cells.cells c.as_slice.result.now c.in-Cells.field-1 c.in-Cells.is c.as_slice.ensures))

pub cells_in-returns-in_default : goal.cells_in-returns-in_default
cells_in-returns-in_default t c = λ above. ap (λ ps. min (length ps) (2 ^ 32 - 1)) (sym (no_spots above c.args.body.now c.in_default.not-Cells))
