-- Where an entry is put into entries by rising keys.
use Rattle.std.specs.Prelude.{ℕ, suc, Bool, false, List, [], ◌∷◌, slice_get}
use Rattle.std.specs.Option.{option_map_or}
use Rattle.std.specs.Ordering.{is_eq}
use Rattle.std.specs.FinMap.Entries.{by_order}
use Rattle.k_terms.specs.declared.value.Value.{Value}
use Rattle.k_terms.specs.Value.{value_cmp}

-- the place of the first entry whose key is not smaller
abbrev pub place_at : Value → List (Value × Value) → ℕ
place_at key [] = 0
place_at key (e ∷ es) = by_order (value_cmp key e.0) 0 0 (suc (place_at key es))

-- the entry at a place has this key
abbrev pub is_tied_at : Value → List (Value × Value) → ℕ → Bool
is_tied_at key entries place = option_map_or (λ (e : Value × Value). is_eq (value_cmp key e.0)) (slice_get entries place) false
