use Rattle.std.specs.Prelude.{IsTrue}
use Rattle.std.specs.List.{list_all}
use Rattle.std.proofs.Common.{take}
use Rattle.small_form.specs.Pieces.{is_blank}
use Rattle.small_form.proofs.reader.leading_blanks.Given as goal

abbrev pub invariant-loop-i : goal.invariant-loop-i
invariant-loop-i l = IsTrue (list_all is_blank (take l.i l.text))
