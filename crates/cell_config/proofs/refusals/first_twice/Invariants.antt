use Rattle.std.proofs.Common.{◌≡◌, [], take, drop}
use Rattle.cell_config.specs.Refusals.{first_twice}
use Rattle.cell_config.proofs.refusals.first_twice.Given as goal

abbrev pub invariant-loop-number : goal.invariant-loop-number
invariant-loop-number l = first_twice [] l.cells ≡ first_twice (take l.number l.cells) (drop l.number l.cells)
