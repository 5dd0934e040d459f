use Rattle.std.proofs.Common.{◌++◌, sym, ap, ◌∙◌}
use Rattle.std.proofs.lemmas.List.{append-nil}
use Rattle.rule_terms.proofs.SpotCounts.{spots_of_cells, no_spots}
use Rattle.bag_map_match.specs.Lent.{listed}
use Rattle.bag_map_match.proofs.spots.+listing.Goals as goal

pub push_inner-returns-in_ok-push_cells-in-Cells :
    goal.push_inner-returns-in_ok-push_cells-in-Cells
push_inner-returns-in_ok-push_cells-in-Cells t c =
    c.in_ok-push_cells-in-Cells.ensures
    ∙ ap (λ ps. listed c.args.spots.now.items ++ ps)
    (sym (spots_of_cells c.args.above c.args.body.now c.in-Cells.cells c.as_slice.result.now c.in-Cells.field-1 c.in-Cells.is c.as_slice.ensures))

pub push_inner-returns-in_default : goal.push_inner-returns-in_default
push_inner-returns-in_default t c =
    sym (ap (λ ps. listed c.args.spots.now.items ++ ps) (no_spots c.args.above c.args.body.now c.in_default.not-Cells) ∙ append-nil (listed c.args.spots.now.items))
