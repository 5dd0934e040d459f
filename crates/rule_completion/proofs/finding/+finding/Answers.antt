use Rattle.std.proofs.Common.{ap, sym, ◌∙◌}
use Rattle.live_config.specs.Footprint.{body_of_mark}
use Rattle.rule_terms.proofs.SpotCounts.{spots_of_cells, no_spots}
use Rattle.rule_completion.proofs.Found.{found_first, none_yet, is_outer, is_inside}
use Rattle.rule_completion.proofs.finding.+finding.Goals as goal

pub find_inside-returns-in-Cells : goal.find_inside-returns-in-Cells
find_inside-returns-in-Cells t c = λ above.
    c.find_among.ensures above
    ∙ ap (λ ps. body_of_mark ps c.args.mark) (sym (spots_of_cells above c.args.body.now c.in-Cells.cells c.as_slice.result.now c.in-Cells.field-1 c.in-Cells.is c.as_slice.ensures))

pub find_inside-returns-in_default : goal.find_inside-returns-in_default
find_inside-returns-in_default t c = λ above. ap (λ ps. body_of_mark ps c.args.mark) (sym (no_spots above c.args.body.now c.in_default.not-Cells))

pub find_among-returns-then-cell-mark : goal.find_among-returns-then-cell-mark
find_among-returns-then-cell-mark t c = λ above.
    found_first above c.args.mark c.args.cells.now c.loop-cell.cell-index c.cell-item.result c.cell-item.result.body c.loop-cell-test.true c.cell-item.is
    (c.loop-cell.invariant above) (is_outer above c.args.mark c.cell-item.result c.if-cell-mark.true)

pub find_among-returns-in-Some : goal.find_among-returns-in-Some
find_among-returns-in-Some t c = λ above.
    found_first above c.args.mark c.args.cells.now c.loop-cell.cell-index c.cell-item.result c.in-Some.found.now c.loop-cell-test.true c.cell-item.is
    (c.loop-cell.invariant above)
    (is_inside above c.args.mark c.cell-item.result c.in-Some.found.now (c.in-Some.ensures c.cell-item.result.mark) c.if-cell-mark.false)

pub find_among-loop-cell-preserved : goal.find_among-loop-cell-preserved
find_among-loop-cell-preserved t c = λ above.
    none_yet above c.args.mark c.args.cells.now c.loop-cell.cell-index c.cell-item.result c.loop-cell-test.true c.cell-item.is
    (c.loop-cell.invariant above) (sym (c.in_default.ensures c.cell-item.result.mark)) c.if-cell-mark.false
