use Rattle.std.proofs.Common.{length}
use Rattle.bag_map_match.proofs.cells.+all_different.Given as goal

abbrev pub decreases-all_different : goal.decreases-all_different
decreases-all_different l = length l.numbers.now
