use Rattle.std.proofs.Common.{◌≡◌, map, take}
use Rattle.cell_config.specs.Cells.{shape_of}
use Rattle.cell_config.proofs.tree.shapes_of.Given as goal

abbrev pub invariant-loop-cell : goal.invariant-loop-cell
invariant-loop-cell l = l.shapes ≡ map shape_of (take l.cell-index l.cells)
