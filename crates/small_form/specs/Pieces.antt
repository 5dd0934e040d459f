-- How a text is written as pieces with blanks around them.
use Rattle.std.specs.Prelude.{◌≡◌, ℕ, Bool, false, ◌&&◌, ◌||◌, ◌==◌, not, nat_le, List, [], ◌∷◌, ◌++◌, IsTrue, length, ◌-◌, slice_get}
use Rattle.std.specs.Option.{option_map_or}
use Rattle.std.specs.List.{list_all}

-- space, tab, line feed and carriage return
abbrev pub is_blank : ℕ → Bool
is_blank b = b == 32 || b == 9 || b == 10 || b == 13

abbrev pub is_capital : ℕ → Bool
is_capital b = nat_le 65 b && nat_le b 90

abbrev pub is_small : ℕ → Bool
is_small b = nat_le 97 b && nat_le b 122

abbrev pub starts_word : ℕ → Bool
starts_word b = is_capital b || is_small b || b == 95

-- letters, digits and the underscore
abbrev pub continues_word : ℕ → Bool
continues_word b = starts_word b || (nat_le 48 b && nat_le b 57)

abbrev pub is_word : List ℕ → Bool
is_word [] = false
is_word (b ∷ bs) = starts_word b && list_all continues_word bs

abbrev pub begins_in_word : List ℕ → Bool
begins_in_word text = option_map_or continues_word (slice_get text 0) false

abbrev pub ends_in_word : List ℕ → Bool
ends_in_word text = option_map_or continues_word (slice_get text (length text - 1)) false

-- a piece that has a first byte, which is no blank
abbrev pub is_solid : List ℕ → Bool
is_solid [] = false
is_solid (b ∷ bs) = not (is_blank b)

-- a piece ends where it does: what follows doesn't go on with its word
abbrev pub is_apart : List ℕ → List ℕ → Bool
is_apart piece rest = not (ends_in_word piece && begins_in_word rest)

-- The pieces are written at the front of a text, with blanks before each, and leave the rest of it.
abbrev pub Reads : List (List ℕ) → List ℕ → List ℕ → Type 0
Reads [] text rest = text ≡ rest
Reads (piece ∷ pieces) text rest =
    (blanks : List ℕ) × (after : List ℕ) × (text ≡ blanks ++ (piece ++ after)) × IsTrue (list_all is_blank blanks) × IsTrue (is_apart piece after)
    × Reads pieces after rest

-- the text is these pieces with blanks before, between and after them
abbrev pub Spells : List (List ℕ) → List ℕ → Type 0
Spells pieces text = (rest : List ℕ) × Reads pieces text rest × IsTrue (list_all is_blank rest)
