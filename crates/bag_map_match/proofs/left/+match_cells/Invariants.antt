use Rattle.std.proofs.Common.{length}
use Rattle.bag_map_match.proofs.left.+match_cells.Given as goal

abbrev pub decreases-match_cells : goal.decreases-match_cells
decreases-match_cells l = length l.spots.now
