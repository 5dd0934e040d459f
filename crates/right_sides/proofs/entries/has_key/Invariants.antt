use Rattle.std.proofs.Common.{◌≡◌, drop}
use Rattle.std.specs.FinMap.{find}
use Rattle.k_terms.specs.Value.{value_cmp}
use Rattle.right_sides.proofs.entries.has_key.Given as goal

abbrev pub invariant-loop-other : goal.invariant-loop-other
invariant-loop-other l = find value_cmp l.key l.entries ≡ find value_cmp l.key (drop l.other-index l.entries)
