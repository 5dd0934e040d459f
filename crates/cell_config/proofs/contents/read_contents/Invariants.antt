use Rattle.std.proofs.Common.{take}
use Rattle.cell_config.specs.Divisions.{AreCellsOf}
use Rattle.cell_config.proofs.contents.read_contents.Given as goal

abbrev pub invariant-loop-number : goal.invariant-loop-number
invariant-loop-number l = AreCellsOf l.grammar l.tokens (take l.number l.forms) l.cells
