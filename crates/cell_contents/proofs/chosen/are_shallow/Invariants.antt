use Rattle.std.proofs.Common.{take}
use Rattle.std.specs.List.{AllByRecursion}
use Rattle.cell_contents.specs.Readings.{IsShallow}
use Rattle.cell_contents.proofs.chosen.are_shallow.Given as goal

abbrev pub invariant-loop-value : goal.invariant-loop-value
invariant-loop-value l = AllByRecursion IsShallow (take l.value-index l.values)
