use Rattle.std.proofs.Common.{length}
use Rattle.cell_contents.proofs.Entering.{IsLeft}
use Rattle.cell_contents.proofs.maps.map_of.Given as goal

abbrev pub invariant-loop-value : goal.invariant-loop-value
invariant-loop-value l = IsLeft l.fn.values l.values.items l.entries.items

abbrev pub decreases-loop-value : goal.decreases-loop-value
decreases-loop-value l = length l.values.items
