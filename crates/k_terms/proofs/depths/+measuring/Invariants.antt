use Rattle.std.proofs.Common.{◌≡◌, ◌-◌, ◌^◌, min, take}
use Rattle.k_terms.specs.Parts.{greatest_depth, greatest_entry_depth}
use Rattle.k_terms.proofs.depths.+measuring.Given as goal

abbrev pub invariant-depth_of_entries-loop-key : goal.invariant-depth_of_entries-loop-key
invariant-depth_of_entries-loop-key l = l.greatest ≡ min (greatest_entry_depth (take l.key-index l.entries)) (2 ^ 32 - 1)

abbrev pub invariant-depth_of_parts-loop-part : goal.invariant-depth_of_parts-loop-part
invariant-depth_of_parts-loop-part l = l.greatest ≡ min (greatest_depth (take l.part-index l.parts)) (2 ^ 32 - 1)
