use Rattle.std.proofs.Common.{◌-◌, ◌^◌, min, length, sym, ap, ◌∙◌}
use Rattle.std.specs.List.{filter}
use Rattle.rule_terms.specs.CellCounts.{is_beside}
use Rattle.rule_terms.proofs.SpotCounts.{spots_of_cells, no_spots}
use Rattle.rule_terms.proofs.counts.+counting_new.Goals as goal

pub new_in-returns-in-Cells : goal.new_in-returns-in-Cells
new_in-returns-in-Cells t c = λ above.
    c.new_among.ensures above ∙ ap (λ ps. min (length (filter (is_beside c.args.side.now) ps)) (2 ^ 32 - 1)) (sym (spots_of_cells above c.args.body.now c.in-Cells.cells c.as_slice.result.now c.in-Cells.field-1 c.in-Cells.is c.as_slice.ensures))

pub new_in-returns-in_default : goal.new_in-returns-in_default
new_in-returns-in_default t c =
    λ above. ap (λ ps. min (length (filter (is_beside c.args.side.now) ps)) (2 ^ 32 - 1)) (sym (no_spots above c.args.body.now c.in_default.not-Cells))
