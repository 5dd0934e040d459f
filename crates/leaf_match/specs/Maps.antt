-- The entries of a map at some keys.
use Rattle.std.specs.Prelude.{◌≡◌, ℕ, Bool, false, ◌&&◌, ◌||◌, List, [], ◌∷◌, length, map, Option, Some, None, slice_get}
use Rattle.std.specs.Option.{option_map, option_and_then}
use Rattle.std.specs.List.{AllByRecursion, list_any}
use Rattle.std.specs.Ordering.{is_eq}
use Rattle.std.specs.FinMap.{find}
use Rattle.k_terms.specs.declared.value.Value.{Value}
use Rattle.k_terms.specs.Value.{value_cmp}
use Rattle.k_terms.specs.declared.value.Content.TheVariants.{Map as MapContent}
use Rattle.k_terms.specs.Operators.{as_entries}
use Rattle.rule_terms.specs.Substitution.{Subst, rest_of}
use Rattle.rule_terms.specs.Eval.{eval_all, eval_entries}
use Rattle.rule_terms.specs.Fill.{put_new}
use Rattle.rule_terms.specs.Patterns.{mentions}
use Rattle.rule_terms.specs.Sound.{has_no_operator}
use Rattle.rule_terms.specs.declared.pattern.Pattern.{Pattern}

abbrev pub Entries : Type 0
Entries = List (Value × Value)

abbrev pub keys_of : Entries → List Value
keys_of es = map (λ (e : Value × Value). e.0) es

-- the patterns of the keys of entries
abbrev pub key_patterns : List (Pattern × Pattern) → List Pattern
key_patterns entries = map (λ e. e.0) entries

-- a key is one of these
abbrev pub among : List Value → Value → Bool
among ks x = list_any (λ k. is_eq (value_cmp k x)) ks

-- no key stands twice
abbrev pub KeysDiffer : List Value → Type 0
KeysDiffer [] = Unit {0}
KeysDiffer (k ∷ ks) = (among ks k ≡ false) × KeysDiffer ks

-- each entry is there
abbrev pub AreThere : Entries → Entries → Type 0
AreThere c es = AllByRecursion (λ (e : Value × Value). find value_cmp e.0 c ≡ Some e.1) es

-- these are the entries at these places
abbrev pub PickedAt : Entries → List ℕ → Entries → Type 0
PickedAt c [] [] = Unit {0}
PickedAt c [] (e ∷ es) = ⊥
PickedAt c (p ∷ ps) [] = ⊥
PickedAt c (p ∷ ps) (e ∷ es) = (slice_get c p ≡ Some e) × PickedAt c ps es

-- a key stands at a place, or is not there
abbrev pub IsKeyAt : Entries → Value → Option ℕ → Type 0
IsKeyAt c k None = find value_cmp k c ≡ None
IsKeyAt c k (Some p) = (v : Value) × (slice_get c p ≡ Some (k, v))

-- the places of keys that differ, or none where one isn't there or stands twice
abbrev pub ArePlaces : Entries → List Value → Option (List ℕ) → Type 0
ArePlaces c ks (Some ps) = (es : Entries) × PickedAt c ps es × (keys_of es ≡ ks) × KeysDiffer ks
ArePlaces c ks None = (es : Entries) → keys_of es ≡ ks → AreThere c es → KeysDiffer ks → ⊥

-- no operator stands in an entry
abbrev pub is_plain_entry : Pattern × Pattern → Bool
is_plain_entry e = has_no_operator e.0 && has_no_operator e.1

-- a variable stands in an entry
abbrev pub mentions_entry : ℕ → Pattern × Pattern → Bool
mentions_entry x e = mentions x e.0 || mentions x e.1

-- each pattern of an entry has its place
abbrev pub HavePlaces : Entries → List (Pattern × Pattern) → List ℕ → Type 0
HavePlaces c patterns ps = (es : Entries) × PickedAt c ps es × (length patterns ≡ length es)

-- The entries and the rest of a map are these entries under a substitution, and the keys are these.
abbrev pub IsMapAt : List (Pattern × Pattern) → Option ℕ → Entries → List Value → Subst → Type 0
IsMapAt patterns rest c ks s =
    (option_map MapContent (option_and_then (λ es. option_and_then (put_new es) (rest_of as_entries rest s)) (eval_entries patterns s)) ≡ Some (MapContent c))
    × (eval_all (key_patterns patterns) s ≡ Some ks)
