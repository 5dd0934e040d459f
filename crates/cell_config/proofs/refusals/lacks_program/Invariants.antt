use Rattle.std.proofs.Common.{◌≡◌, drop}
use Rattle.std.specs.List.{list_any}
use Rattle.cell_config.specs.Refusals.{is_k_with_program}
use Rattle.cell_config.proofs.refusals.lacks_program.Given as goal

abbrev pub invariant-loop-cell : goal.invariant-loop-cell
invariant-loop-cell l = list_any is_k_with_program l.division.cells ≡ list_any is_k_with_program (drop l.cell-index l.division.cells)
