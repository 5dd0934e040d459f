use Rattle.std.proofs.Common.{◌≡◌, drop}
use Rattle.cell_config.specs.Refusals.{first_some, stray_program}
use Rattle.cell_config.proofs.refusals.first_stray.Given as goal

abbrev pub invariant-loop-cell : goal.invariant-loop-cell
invariant-loop-cell l = first_some stray_program l.cells ≡ first_some stray_program (drop l.cell-index l.cells)
