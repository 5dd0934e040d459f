use Rattle.std.proofs.Common.{None, take}
use Rattle.span_table.specs.Choices.{IsFirst}
use Rattle.span_table.proofs.readings.first_standing.Given as goal

abbrev pub invariant-loop-row : goal.invariant-loop-row
invariant-loop-row l = IsFirst l.grammar l.sort (take l.row-index l.rows) None
