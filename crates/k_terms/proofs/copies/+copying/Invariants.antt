use Rattle.std.proofs.Common.{◌≡◌, take}
use Rattle.k_terms.proofs.copies.+copying.Given as goal

abbrev pub invariant-copy_pairs-loop-key : goal.invariant-copy_pairs-loop-key
invariant-copy_pairs-loop-key l = l.copies.items ≡ take l.key-index l.entries

abbrev pub invariant-copy_values-loop-value : goal.invariant-copy_values-loop-value
invariant-copy_values-loop-value l = l.copies.items ≡ take l.value-index l.values
