use Rattle.std.proofs.Common.{◌≡◌, drop}
use Rattle.std.specs.List.{list_any}
use Rattle.cell_config.specs.Refusals.{is_named}
use Rattle.cell_config.proofs.refusals.is_among.Given as goal

abbrev pub invariant-loop-cell : goal.invariant-loop-cell
invariant-loop-cell l = list_any (is_named l.name) l.cells ≡ list_any (is_named l.name) (drop l.cell-index l.cells)
