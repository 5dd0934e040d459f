use Rattle.std.specs.Prelude.{IsTrue}
use Rattle.std.specs.List.{list_all}
use Rattle.std.proofs.Common.{take}
use Rattle.small_form.specs.Pieces.{continues_word}
use Rattle.small_form.proofs.reader.leading_word.Given as goal

abbrev pub invariant-loop-i : goal.invariant-loop-i
invariant-loop-i l = IsTrue (list_all continues_word (take l.i l.text))
