-- Substitutions: what each variable of a rule stands for.
use Rattle.std.specs.Prelude.{◌≡◌, ℕ, ◌==◌, cond, List, [], ◌∷◌, Option, Some, None, slice_get}
use Rattle.std.specs.Option.{option_and_then}
use Rattle.k_terms.specs.declared.value.Value.{Value, out-Value}
use Rattle.k_terms.specs.declared.value.Value.TheOpen.{Items as Items-F, Seq as Seq-F}
use Rattle.k_terms.specs.Sorts.{SortOrder, Below, least_sort, sort_bag}
use Rattle.rule_terms.specs.declared.plain.Plain.{Plain}

-- A value, or a rest of cells. The rest of a sequence, of a list, of a map or of a list sort is a value of that kind.
pub data Bound : Type 0 where
  Whole : Value → Bound
  Bag : List Plain → Bound

-- what the variables stand for, by their numbers
abbrev pub Subst : Type 0
Subst = List Bound

abbrev pub whole_of : Bound → Option Value
whole_of (Whole v) = Some v
whole_of (Bag _) = None

abbrev pub bag_of : Bound → Option (List Plain)
bag_of (Whole _) = None
bag_of (Bag cells) = Some cells

abbrev pub value_at : Subst → ℕ → Option Value
value_at s x = option_and_then whole_of (slice_get s x)

-- the values of a whole sequence, and of a list of production p
abbrev pub as_sequence : Value → Option (List Value)
as_sequence v = elim (out-Value v) [ Seq-F values ↦ Some values | _ ↦ None ]

abbrev pub as_items_of : ℕ → Value → Option (List Value)
as_items_of p v = elim (out-Value v) [ Items-F q values ↦ cond (q == p) (Some values) None | _ ↦ None ]

-- what the rest stands for, read by `kind`; nothing where there is no rest
abbrev pub rest_of : {A : Type 0} → (Value → Option (List A)) → Option ℕ → Subst → Option (List A)
rest_of kind None s = Some []
rest_of kind (Some x) s = option_and_then kind (value_at s x)

-- the cells that a rest of cells stands for
abbrev pub cells_of : Option ℕ → Subst → Option (List Plain)
cells_of None s = Some []
cells_of (Some x) s = option_and_then bag_of (slice_get s x)

-- A value's least sort is below the variable's sort; a rest of cells is of sort Bag.
abbrev pub IsOfSort : SortOrder → ℕ → Bound → Type 0
IsOfSort o sort (Whole v) = Below o (least_sort o v) sort
IsOfSort o sort (Bag _) = sort ≡ sort_bag

-- each variable stands for something of its sort
abbrev pub AreOfSorts : SortOrder → List ℕ → Subst → Type 0
AreOfSorts o [] [] = Unit {0}
AreOfSorts o [] (_ ∷ _) = ⊥
AreOfSorts o (_ ∷ _) [] = ⊥
AreOfSorts o (sort ∷ sorts) (bound ∷ s) = IsOfSort o sort bound × AreOfSorts o sorts s
