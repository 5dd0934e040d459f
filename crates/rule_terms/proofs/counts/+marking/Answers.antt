use Rattle.std.proofs.Common.{sym, ap, ◌∙◌, inl, inr}
use Rattle.rule_terms.specs.Spots.{has_mark}
use Rattle.rule_terms.proofs.SpotCounts.{spots_of_cells, no_spots, mark_among}
use Rattle.rule_terms.proofs.counts.+marking.Goals as goal

pub has_mark_among-returns-then-cell-mark : goal.has_mark_among-returns-then-cell-mark
has_mark_among-returns-then-cell-mark t c = λ above.
    mark_among above c.args.mark c.args.cells.now c.loop-cell.cell-index c.cell-item.result c.loop-cell-test.true c.cell-item.is (inl c.if-cell-mark.true)

pub has_mark_among-returns-then-has_mark_in : goal.has_mark_among-returns-then-has_mark_in
has_mark_among-returns-then-has_mark_in t c = λ above.
    mark_among above c.args.mark c.args.cells.now c.loop-cell.cell-index c.cell-item.result c.loop-cell-test.true c.cell-item.is
    (inr (sym (c.if-has_mark_in.ensures c.cell-item.result.mark)))

pub has_mark_in-returns-in-Cells : goal.has_mark_in-returns-in-Cells
has_mark_in-returns-in-Cells t c = λ above.
    c.has_mark_among.ensures above ∙ ap (λ ps. has_mark ps c.args.mark) (sym (spots_of_cells above c.args.body.now c.in-Cells.cells c.as_slice.result.now c.in-Cells.field-1 c.in-Cells.is c.as_slice.ensures))

pub has_mark_in-returns-in_default : goal.has_mark_in-returns-in_default
has_mark_in-returns-in_default t c = λ above. ap (λ ps. has_mark ps c.args.mark) (sym (no_spots above c.args.body.now c.in_default.not-Cells))
