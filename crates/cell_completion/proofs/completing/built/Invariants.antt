use Rattle.std.proofs.Common.{◌≡◌, drop, Some}
use Rattle.cell_completion.specs.Building.{built}
use Rattle.cell_completion.proofs.completing.built.Given as goal

abbrev pub invariant-loop-place : goal.invariant-loop-place
invariant-loop-place l = built l.shapes (drop l.place l.written) ≡ Some l.standing.items
