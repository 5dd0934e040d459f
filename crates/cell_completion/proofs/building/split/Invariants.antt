use Rattle.std.specs.Prelude.{Some}
use Rattle.cell_completion.specs.Building.{stands_in}
use Rattle.cell_completion.proofs.Filtering.{AreParted}
use Rattle.cell_completion.proofs.building.split.Given as goal

abbrev pub invariant-loop-tree : goal.invariant-loop-tree
invariant-loop-tree l = AreParted (stands_in l.shapes (Some l.cell)) l.yielded l.inner.items l.others.items
