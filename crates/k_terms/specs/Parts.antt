-- What is said of a value's parts together.
use Rattle.std.specs.Prelude.{ℕ, max, Bool, true, ◌&&◌, List, [], ◌∷◌}
use Rattle.k_terms.specs.declared.value.Value.{Value}
use Rattle.k_terms.specs.Value.{depth_of, is_well_formed}

abbrev pub greatest_depth : List Value → ℕ
greatest_depth [] = 0
greatest_depth (part ∷ parts) = max (depth_of part) (greatest_depth parts)

abbrev pub greatest_entry_depth : List (Value × Value) → ℕ
greatest_entry_depth [] = 0
greatest_entry_depth (entry ∷ entries) = max (max (depth_of entry.0) (depth_of entry.1)) (greatest_entry_depth entries)

abbrev pub are_well_formed : List Value → Bool
are_well_formed [] = true
are_well_formed (part ∷ parts) = is_well_formed part && are_well_formed parts

abbrev pub entries_are_well_formed : List (Value × Value) → Bool
entries_are_well_formed [] = true
entries_are_well_formed (entry ∷ entries) = is_well_formed entry.0 && is_well_formed entry.1 && entries_are_well_formed entries
