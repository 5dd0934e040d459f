use Rattle.std.proofs.Common.{◌≡◌}
use Rattle.cell_completion.specs.Building.{each_added}
use Rattle.cell_completion.proofs.building.each_added.Given as goal

abbrev pub invariant-loop-tree : goal.invariant-loop-tree
invariant-loop-tree l = l.new.items ≡ each_added l.cell l.yielded
