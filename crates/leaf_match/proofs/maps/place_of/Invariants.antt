use Rattle.std.proofs.Common.{◌≡◌, drop}
use Rattle.std.specs.FinMap.{find}
use Rattle.k_terms.specs.Value.{value_cmp}
use Rattle.leaf_match.proofs.maps.place_of.Given as goal

abbrev pub invariant-loop-place : goal.invariant-loop-place
invariant-loop-place l = find value_cmp l.key l.entries ≡ find value_cmp l.key (drop l.place l.entries)
