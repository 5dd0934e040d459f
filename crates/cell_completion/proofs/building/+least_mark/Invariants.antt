use Rattle.std.proofs.Common.{◌≡◌, take}
use Rattle.cell_completion.specs.declared.tree.Tree.{out-Tree}
use Rattle.cell_completion.proofs.Leasts.{least_with}
use Rattle.cell_completion.proofs.building.+least_mark.Given as goal

abbrev pub invariant-loop-inner : goal.invariant-loop-inner
invariant-loop-inner l = l.found ≡ least_with (out-Tree l.tree).mark (take l.inner-index l.inner-items)
