use Rattle.std.proofs.Common.{◌≡◌, ◌++◌, take}
use Rattle.rule_listing.specs.Lines.{cells_of}
use Rattle.rule_listing.proofs.lines.+cells.Given as goal

abbrev pub invariant-add_cells-loop-cell : goal.invariant-add_cells-loop-cell
invariant-add_cells-loop-cell l = l.found.items ≡ l.initial.found.items ++ cells_of (take l.cell-index l.cells)
