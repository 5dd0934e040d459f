-- What the variables of a rule stand for, as far as they are bound.
use Rattle.std.specs.Prelude.{◌≡◌, ◌≢◌, ℕ, suc, Bool, true, false, ◌||◌, cond, List, [], ◌∷◌, map, length, Option, Some, None, slice_get}
use Rattle.std.specs.Option.{option_map, option_and_then}
use Rattle.std.specs.List.Sorted.{IsStrictlyIncreasing}
use Rattle.k_terms.specs.declared.value.Value.{Value, Node, Items, Seq, Map, List as Listed, Freezer}
use Rattle.k_terms.specs.Operators.{bounded}
use Rattle.k_terms.specs.Sorts.{SortOrder, Below, least_sort}
use Rattle.rule_terms.specs.Numbers.{has_number}
use Rattle.rule_terms.specs.Substitution.{Subst, value_at, AreOfSorts}
use Rattle.leaf_match.specs.declared.bound.Bound.{Bound}
use Rattle.leaf_match.specs.declared.bound.Bound.TheVariants as bound

-- what stands at other places than these, from a place on
abbrev pub kept : {A : Type 0} → ℕ → List ℕ → List A → List A
kept at places [] = []
kept at places (x ∷ xs) = cond (has_number places at) (kept (suc at) places xs) (x ∷ kept (suc at) places xs)

-- the value that is lent
abbrev pub meaning : Bound → Value
meaning (bound.Whole v) = v.now
meaning (bound.Items p vs) = Items p vs.now
meaning (bound.Seq vs) = Seq vs.now
meaning (bound.List vs) = Listed vs.now
meaning (bound.Map entries places) = Map (kept 0 places entries.now)

-- the places of a lent map rise
abbrev pub HasRisingPlaces : Bound → Type 0
HasRisingPlaces (bound.Map entries places) = IsStrictlyIncreasing places
HasRisingPlaces _ = Unit {0}

-- those of each map that is lent
abbrev pub HaveRisingPlaces : List (Option Bound) → Type 0
HaveRisingPlaces bounds = (x : ℕ) (lent : Bound) → slice_get bounds x ≡ Some (Some lent) → HasRisingPlaces lent

-- the value of each variable, where it is bound
abbrev pub Partial : Type 0
Partial = List (Option Value)

abbrev pub partial_of : List (Option Bound) → Partial
partial_of bounds = map (option_map meaning) bounds

-- a substitution gives each bound variable its value
abbrev pub Agrees : Partial → Subst → Type 0
Agrees p s = (x : ℕ) (v : Value) → slice_get p x ≡ Some (Some v) → value_at s x ≡ Some v

-- each variable has a place, and what is bound is of the variable's sort
pub record AreSuited (o : SortOrder) (vars : List ℕ) (p : Partial) : Type 0 where
  pub count : length p ≡ length vars
  pub sorts : (x : ℕ) (v : Value) (sort : ℕ) → slice_get p x ≡ Some (Some v) → slice_get vars x ≡ Some sort → Below o (least_sort o v) sort

-- A variable stands for another value than this one, or has no place; or it stands for this one; or it is free.
abbrev pub IsCompared : Partial → ℕ → Value → Option Bool → Type 0
IsCompared p x v None = slice_get p x ≡ Some None
IsCompared p x v (Some true) = slice_get p x ≡ Some (Some v)
IsCompared p x v (Some false) = slice_get p x ≢ Some (Some v) × slice_get p x ≢ Some None

-- What is found by binding further variables: those substitutions that agree with what was bound and of which this is true
-- are those that agree with what is bound now; or there is none.
abbrev pub Tells : SortOrder → List ℕ → Bool → Partial → Partial → (Subst → Type 0) → Type 0
Tells o vars true before after Holds =
    (s : Subst) → AreOfSorts o vars s → (Agrees before s → Holds s → Agrees after s) × (Agrees after s → Agrees before s × Holds s)
Tells o vars false before after Holds = (s : Subst) → AreOfSorts o vars s → Agrees before s → Holds s → ⊥

-- ---- which variables are bound

abbrev pub has_value : Option (Option Value) → Bool
has_value (Some (Some _)) = true
has_value _ = false

abbrev pub is_bound : Partial → ℕ → Bool
is_bound p x = has_value (slice_get p x)

-- where something is found, those variables are bound that were bound before, and those of which a test is true
abbrev pub Reaches : Bool → Partial → Partial → (ℕ → Bool) → Type 0
Reaches found before after stands = found ≡ true → (x : ℕ) → is_bound after x ≡ (is_bound before x || stands x)

-- ---- a value built of parts

abbrev pub node_at : ℕ → Option (List Value) → Option Value
node_at p parts = option_and_then (λ vs. bounded (Node p vs)) parts

abbrev pub items_at : ℕ → Option (List Value) → Option Value
items_at p parts = option_and_then (λ vs. bounded (Items p vs)) parts

abbrev pub sequence_at : Option (List Value) → Option Value
sequence_at parts = option_and_then (λ vs. bounded (Seq vs)) parts

abbrev pub freezer_at : ℕ → ℕ → Option (List Value) → Option Value
freezer_at p place parts = option_and_then (λ vs. bounded (Freezer p place vs)) parts
