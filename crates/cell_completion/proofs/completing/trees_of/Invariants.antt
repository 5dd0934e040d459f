use Rattle.std.proofs.Common.{◌≡◌, map}
use Rattle.cell_completion.specs.declared.completing.Standing.{Standing}
use Rattle.cell_completion.proofs.completing.trees_of.Given as goal

abbrev pub invariant-loop-one : goal.invariant-loop-one
invariant-loop-one l = l.trees.items ≡ map (λ (s : Standing). s.tree) l.yielded
