-- Places of a live configuration, when two of them overlap, and when two firings conflict.
use Rattle.std.specs.Prelude.{ℕ, Bool, true, false, ◌==◌, ◌&&◌, ◌||◌, List, [], ◌∷◌, ◌++◌, Option, Some, None, cond}
use Rattle.std.specs.Ordering.{is_eq}
use Rattle.k_terms.specs.Value.{value_cmp}
use Rattle.live_config.specs.declared.place.End.{End}
use Rattle.live_config.specs.declared.place.End.TheVariants.{Whole, Key, Here, Number}
use Rattle.live_config.specs.declared.place.Place.{Place}
use Rattle.live_config.specs.declared.place.Marks.{Marks}

abbrev pub same_end : End → End → Bool
same_end Whole Whole = true
same_end (Key v) (Key w) = is_eq (value_cmp v w)
same_end Here Here = true
same_end (Number n) (Number m) = n == m
same_end _ _ = false

abbrev pub same_path : List ℕ → List ℕ → Bool
same_path [] [] = true
same_path (n ∷ ns) (m ∷ ms) = n == m && same_path ns ms
same_path _ _ = false

-- the first path is a prefix of the second
abbrev pub begins : List ℕ → List ℕ → Bool
begins [] ms = true
begins (n ∷ ns) [] = false
begins (n ∷ ns) (m ∷ ms) = n == m && begins ns ms

abbrev pub is_whole : End → Bool
is_whole Whole = true
is_whole _ = false

-- a whole cell covers each place at or below it
abbrev pub covers : Place → Place → Bool
covers a b = is_whole a.end && begins a.path b.path

-- two places are equal
abbrev pub is_same_place : Place → Place → Bool
is_same_place a b = same_path a.path b.path && same_end a.end b.end

-- two places overlap where they are equal, or one is whole and its path is a prefix of the other's
abbrev pub overlaps : Place → Place → Bool
overlaps a b = is_same_place a b || covers a b || covers b a

-- the first of these places that overlaps
abbrev pub first_over : Place → List Place → Option (Place × Place)
first_over a [] = None
first_over a (b ∷ bs) = cond (overlaps a b) (Some (a, b)) (first_over a bs)

abbrev pub first_of : {A : Type 0} → Option A → Option A → Option A
first_of (Some x) o = Some x
first_of None o = o

-- the first pair of overlapping places, by the first list and then by the second
abbrev pub first_pair : List Place → List Place → Option (Place × Place)
first_pair [] bs = None
first_pair (a ∷ as') bs = first_of (first_over a bs) (first_pair as' bs)

-- Two firings conflict where a rewritten place of one overlaps a read or rewritten place of the other. The pair that is
-- told is the first: the writes of the first in order, each against the reads and then the writes of the second; then the
-- reads of the first against the writes of the second.
abbrev pub conflict_of : Marks → Marks → Option (Place × Place)
conflict_of a b = first_of (first_pair a.writes (b.reads ++ b.writes)) (first_pair a.reads b.writes)
