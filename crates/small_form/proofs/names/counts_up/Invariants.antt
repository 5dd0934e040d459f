use Rattle.std.proofs.Common.{◌≡◌, take}
use Rattle.small_form.specs.Small.{numbers_from}
use Rattle.small_form.proofs.names.counts_up.Given as goal

abbrev pub invariant-loop-i : goal.invariant-loop-i
invariant-loop-i l = take l.i l.numbers ≡ numbers_from 0 l.i
