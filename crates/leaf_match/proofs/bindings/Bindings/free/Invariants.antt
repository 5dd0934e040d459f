use Rattle.std.proofs.Common.{◌≡◌, map, take}
use Rattle.std.specs.Prelude.{None}
use Rattle.leaf_match.specs.Bindings.{partial_of}
use Rattle.leaf_match.proofs.bindings.Bindings.free.Given as goal

-- so many are free
abbrev pub invariant-loop-sort : goal.invariant-loop-sort
invariant-loop-sort l = partial_of l.bounds.items ≡ map (λ _. None) (take l._sort-index l.vars)
