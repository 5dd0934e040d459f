use Rattle.std.proofs.Common.{◌≡◌, ◌-◌, length}
use Rattle.cell_completion.specs.Building.{stages}
use Rattle.cell_completion.proofs.building.stages.Given as goal

abbrev pub invariant-loop-cell : goal.invariant-loop-cell
invariant-loop-cell l =
    stages l.shapes l.first (length l.shapes - l.first) l.fn.trees.items ≡ stages l.shapes l.first (l.cell - l.first) l.trees.items
