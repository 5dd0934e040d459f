use Rattle.std.proofs.Common.{◌≡◌, ◌+◌, ◌∷◌, ◌++◌, drop, sym, ap, ◌∙◌}
use Rattle.std.specs.Prelude.{Some}
use Rattle.std.specs.List.{flat_map}
use Rattle.rule_terms.specs.Options.{joined}
use Rattle.rule_terms.specs.Fill.{content_of}
use Rattle.rule_terms.specs.Spots.{Spot, spots_in}
use Rattle.rule_terms.specs.CellCounts.{spots_under}
use Rattle.rule_terms.proofs.SpotCounts.{spots_of_cells, no_spots}
use Rattle.right_sides.specs.Contents.{contents_of}
use Rattle.right_sides.proofs.Lists.{under_next, under_stops, under_ends}
use Rattle.right_sides.proofs.Cells.{spot_under, both_contents, no_own_content, no_other_content, pushed_more}
use Rattle.right_sides.proofs.sides.+filling.Goals as goal

-- ---- several cells

pub contents_among-returns-in_default : goal.contents_among-returns-in_default
contents_among-returns-in_default t c = λ above s seen.
    under_stops (λ (p : Spot). content_of p.body s) (spots_under above) c.args.cells.now c.loop-cell.cell-index c.cell-item.result c.loop-cell.contents.items
    (contents_of (flat_map (spots_under above) c.args.cells.now) s) c.loop-cell-test.true c.cell-item.is
    (no_own_content (spot_under above c.cell-item.result) (spots_in c.cell-item.result.mark c.cell-item.result.body) s (sym c.in_default.is ∙ c.in_ok-own.ensures s seen))
    (c.loop-cell.invariant above s seen)

pub contents_among-returns-in_default-2 : goal.contents_among-returns-in_default-2
contents_among-returns-in_default-2 t c = λ above s seen.
    under_stops (λ (p : Spot). content_of p.body s) (spots_under above) c.args.cells.now c.loop-cell.cell-index c.cell-item.result c.loop-cell.contents.items
    (contents_of (flat_map (spots_under above) c.args.cells.now) s) c.loop-cell-test.true c.cell-item.is
    (no_other_content (spot_under above c.cell-item.result) (spots_in c.cell-item.result.mark c.cell-item.result.body) s c.in-Some.own
    (sym c.in-Some.is ∙ c.in_ok-own.ensures s seen) (sym c.in_default-2.is ∙ c.in_ok-inside.ensures c.cell-item.result.mark s seen))
    (c.loop-cell.invariant above s seen)

pub contents_among-loop-cell-preserved : goal.contents_among-loop-cell-preserved
contents_among-loop-cell-preserved t c = λ above s seen.
    under_next (λ (p : Spot). content_of p.body s) (spots_under above) c.args.cells.now c.loop-cell.cell-index c.cell-item.result (c.in-Some.own ∷ c.in-Some-2.inside) c.loop-cell.contents.items
    (contents_of (flat_map (spots_under above) c.args.cells.now) s) c.loop-cell-test.true c.cell-item.is
    (both_contents (spot_under above c.cell-item.result) (spots_in c.cell-item.result.mark c.cell-item.result.body) s c.in-Some.own c.in-Some-2.inside
    (sym c.in-Some.is ∙ c.in_ok-own.ensures s seen) (sym c.in-Some-2.is ∙ c.in_ok-inside.ensures c.cell-item.result.mark s seen))
    (c.loop-cell.invariant above s seen)
    ∙ ap (λ ys. joined (Some ys) (contents_of (flat_map (spots_under above) (drop (c.loop-cell.cell-index + 1) c.args.cells.now)) s)) (sym added)
  where
    added : c.append.new.self.items ≡ c.loop-cell.contents.items ++ c.in-Some.own ∷ c.in-Some-2.inside
    added =
        c.in_ok-append.ensures.items ∙ (λ k. c.in_ok-push.ensures.items k ++ c.into_vec.ensures k)
        ∙ pushed_more c.loop-cell.contents.items c.in-Some.own c.in-Some-2.inside

pub contents_among-returns : goal.contents_among-returns
contents_among-returns t c = λ above s seen.
    ap Some c.from_vec.ensures
    ∙ under_ends (λ (p : Spot). content_of p.body s) (spots_under above) c.args.cells.now c.loop-cell.cell-index c.loop-cell.contents.items
    (contents_of (flat_map (spots_under above) c.args.cells.now) s) c.loop-cell-test.false (c.loop-cell.invariant above s seen)

-- ---- the cells in a body

pub contents_in-returns-in_ok-found-in-Cells : goal.contents_in-returns-in_ok-found-in-Cells
contents_in-returns-in_ok-found-in-Cells t c = λ above s seen.
    c.in_ok-found-in-Cells.ensures above s seen
    ∙ ap (λ ps. contents_of ps s) (sym (spots_of_cells above c.args.body.now c.in-Cells.cells c.as_slice.result.now c.in-Cells.field-1 c.in-Cells.is c.as_slice.ensures))

pub contents_in-returns-in_default : goal.contents_in-returns-in_default
contents_in-returns-in_default t c = λ above s seen.
    ap Some c.new.ensures ∙ ap (λ ps. contents_of ps s) (sym (no_spots above c.args.body.now c.in_default.not-Cells))
