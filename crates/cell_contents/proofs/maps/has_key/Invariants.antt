use Rattle.std.proofs.Common.{◌≡◌, drop}
use Rattle.std.specs.FinMap.{find}
use Rattle.k_terms.specs.Value.{value_cmp}
use Rattle.cell_contents.proofs.maps.has_key.Given as goal

abbrev pub invariant-loop-entry : goal.invariant-loop-entry
invariant-loop-entry l = find value_cmp l.key l.entries ≡ find value_cmp l.key (drop l.entry-index l.entries)
