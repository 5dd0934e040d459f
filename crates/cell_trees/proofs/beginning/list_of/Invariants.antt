use Rattle.std.proofs.Common.{◌≡◌, map, take}
use Rattle.k_terms.specs.declared.value.Value.{Int}
use Rattle.cell_trees.proofs.beginning.list_of.Given as goal

abbrev pub invariant-loop-number : goal.invariant-loop-number
invariant-loop-number l = l.list.items ≡ map (λ number. Int number) (take l.number-index l.input)
