use Rattle.std.proofs.Common.{◌≡◌, ◌++◌, take}
use Rattle.std.specs.List.{flat_map}
use Rattle.rule_terms.specs.CellCounts.{spots_under}
use Rattle.bag_map_match.specs.Lent.{listed}
use Rattle.bag_map_match.proofs.spots.+listing.Given as goal

abbrev pub invariant-push_cells-loop-cell : goal.invariant-push_cells-loop-cell
invariant-push_cells-loop-cell l = listed l.spots.items ≡ listed l.initial.spots.items ++ flat_map (spots_under l.above) (take l.cell-index l.cells)
