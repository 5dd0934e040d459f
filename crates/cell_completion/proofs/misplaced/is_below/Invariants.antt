use Rattle.cell_completion.proofs.Declared.{IsOnWay}
use Rattle.cell_completion.proofs.misplaced.is_below.Given as goal

abbrev pub decreases-loop-parent : goal.decreases-loop-parent
decreases-loop-parent l = l.cell

abbrev pub invariant-loop-parent : goal.invariant-loop-parent
invariant-loop-parent l = IsOnWay l.shapes l.outer l.inner l.cell
