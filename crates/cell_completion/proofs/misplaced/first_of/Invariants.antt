use Rattle.std.proofs.Common.{take}
use Rattle.cell_completion.specs.Completion.{IsMisplaced}
use Rattle.cell_completion.proofs.Firsts.{IsFirst}
use Rattle.cell_completion.proofs.misplaced.first_of.Given as goal

abbrev pub invariant-loop-one : goal.invariant-loop-one
invariant-loop-one l = IsFirst (IsMisplaced l.shapes l.written) (take l.one-index l.written) l.found
