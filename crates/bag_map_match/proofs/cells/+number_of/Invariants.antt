use Rattle.std.proofs.Common.{length}
use Rattle.bag_map_match.proofs.cells.+number_of.Given as goal

abbrev pub decreases-number_of : goal.decreases-number_of
decreases-number_of l = length l.spots.now
