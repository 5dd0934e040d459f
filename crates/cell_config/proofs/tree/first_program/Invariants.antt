use Rattle.std.proofs.Common.{◌≡◌, drop}
use Rattle.cell_config.specs.Refusals.{first_some, program_of}
use Rattle.cell_config.proofs.tree.first_program.Given as goal

abbrev pub invariant-loop-number : goal.invariant-loop-number
invariant-loop-number l = first_some program_of l.cells ≡ first_some program_of (drop l.number l.cells)
