use Rattle.std.proofs.Common.{◌+◌}
use Rattle.cell_contents.specs.Tails.{IsTailWithin}
use Rattle.cell_contents.specs.Tables.{Finds}
use Rattle.cell_contents.proofs.tails.found_from.Given as goal

abbrev pub invariant-loop-size : goal.invariant-loop-size
invariant-loop-size l = Finds l.grammar (IsTailWithin l.grammar l.way l.words (l.size + 1)) l.found
