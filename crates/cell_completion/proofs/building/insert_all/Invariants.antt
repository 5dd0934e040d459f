use Rattle.std.proofs.Common.{◌≡◌}
use Rattle.cell_completion.specs.Building.{all_inserted}
use Rattle.cell_completion.proofs.building.insert_all.Given as goal

abbrev pub invariant-loop-tree : goal.invariant-loop-tree
invariant-loop-tree l = l.trees.items ≡ all_inserted l.yielded l.initial.trees.items
