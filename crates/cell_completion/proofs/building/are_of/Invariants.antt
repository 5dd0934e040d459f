use Rattle.std.proofs.Common.{◌≡◌, drop}
use Rattle.cell_completion.specs.Building.{are_of}
use Rattle.cell_completion.proofs.building.are_of.Given as goal

abbrev pub invariant-loop-tree : goal.invariant-loop-tree
invariant-loop-tree l = are_of l.cell l.trees ≡ are_of l.cell (drop l.tree-index l.trees)
