use Rattle.std.proofs.Common.{◌≡◌, drop, Some}
use Rattle.cell_completion.specs.Completion.{is_both}
use Rattle.cell_completion.proofs.misplaced.is_both.Given as goal

abbrev pub invariant-loop-one : goal.invariant-loop-one
invariant-loop-one l = is_both l.written (Some l.mark) ≡ is_both (drop l.one-index l.written) (Some l.mark)
