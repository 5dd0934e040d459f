use Rattle.std.proofs.Common.{◌≡◌, drop}
use Rattle.std.specs.List.{list_all}
use Rattle.cell_completion.specs.Building.{stands_in}
use Rattle.cell_completion.proofs.completing.all_stand_in.Given as goal

abbrev pub invariant-loop-tree : goal.invariant-loop-tree
invariant-loop-tree l = list_all (stands_in l.shapes l.cell) l.trees ≡ list_all (stands_in l.shapes l.cell) (drop l.tree-index l.trees)
