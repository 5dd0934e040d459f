use Rattle.cell_completion.specs.declared.completing.Standing.{Standing}
use Rattle.cell_completion.specs.Building.{is_enclosed}
use Rattle.cell_completion.proofs.Filtering.{AreTaken}
use Rattle.cell_completion.proofs.completing.split_enclosed.Given as goal

abbrev pub invariant-loop-one : goal.invariant-loop-one
invariant-loop-one l = AreTaken (is_enclosed l.mark) (λ (s : Standing). s.tree) l.yielded l.inner.items l.others.items
