use Rattle.std.proofs.Common.{◌≡◌, drop}
use Rattle.cell_completion.specs.Building.{have_room}
use Rattle.cell_completion.proofs.Rooms.{room_behind}
use Rattle.cell_completion.proofs.building.have_room.Given as goal

abbrev pub invariant-loop-tree : goal.invariant-loop-tree
invariant-loop-tree l = have_room l.shapes l.trees ≡ room_behind l.shapes l.before (drop l.tree-index l.trees)
