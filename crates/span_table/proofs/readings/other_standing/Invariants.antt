use Rattle.std.proofs.Common.{None, take}
use Rattle.span_table.specs.Choices.{IsOther}
use Rattle.span_table.proofs.readings.other_standing.Given as goal

abbrev pub invariant-loop-row : goal.invariant-loop-row
invariant-loop-row l = IsOther l.grammar l.sort (take l.row-index l.rows) l.code None
