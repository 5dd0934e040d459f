use Rattle.std.proofs.Common.{◌≡◌, length}
use Rattle.cell_contents.specs.Tables.{IsTable}
use Rattle.cell_contents.proofs.tails.table_of.Given as goal

abbrev pub invariant-loop-left : goal.invariant-loop-left
invariant-loop-left l = (length l.table.entries ≡ l.left) × IsTable l.grammar l.words l.left l.table
