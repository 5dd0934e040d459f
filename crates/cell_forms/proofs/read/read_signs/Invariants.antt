use Rattle.std.proofs.Common.{◌≡◌, take, Some}
use Rattle.cell_forms.specs.Steps.{nothing, steps}
use Rattle.cell_forms.proofs.read.read_signs.Given as goal

abbrev pub invariant-loop-at : goal.invariant-loop-at
invariant-loop-at l = steps nothing 0 (take l.at l.signs) ≡ Some l.state
