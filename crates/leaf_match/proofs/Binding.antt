-- A variable is bound.
use Rattle.std.proofs.Common.{arith, ◌≡◌, ◌≢◌, ◌⊎◌, inl, inr, ℕ, suc, zero, ◌<◌, ◌≤◌, Bool, true, false, List, [], ◌∷◌, map, length, set, refl, sym, ap, subst, ◌∙◌}
use Rattle.std.specs.Prelude.{Option, Some, None, slice_get, get_or}
use Rattle.std.specs.Option.{option_map}
use Rattle.k_terms.specs.declared.value.Value.{Value}
use Rattle.k_terms.specs.Sorts.{SortOrder, Below, least_sort}
use Rattle.rule_terms.specs.Substitution.{Whole, Bag, Subst, value_at, AreOfSorts}
use Rattle.std.proofs.lemmas.List.{length-map}
use Rattle.std.proofs.lemmas.Option.{slice_get-get_or}
use Rattle.leaf_match.specs.declared.bound.Bound.{Bound as Lent}
use Rattle.leaf_match.specs.Bindings.{meaning, partial_of, Partial, AreSuited, IsCompared, Tells}

same_some : {A : Type 0} (x y : A) → Some x ≡ Some y → x ≡ y
same_some x y e = cc

-- ---- the values of a substitution are of the variables' sorts

pub of_sort : (o : SortOrder) (vars : List ℕ) (s : Subst) (x : ℕ) (v : Value) → AreOfSorts o vars s → value_at s x ≡ Some v
    → (sort : ℕ) × (slice_get vars x ≡ Some sort) × Below o (least_sort o v) sort
of_sort o [] [] x v sorts is = cc
of_sort o [] (b ∷ s) x v sorts is = absurd sorts
of_sort o (sort ∷ vars) [] x v sorts is = absurd sorts
of_sort o (sort ∷ vars) (Whole w ∷ s) zero v sorts is = (sort, refl, subst (λ u. Below o (least_sort o u) sort) (same_some w v is) sorts.0)
of_sort o (sort ∷ vars) (Bag cells ∷ s) zero v sorts is = cc
of_sort o (sort ∷ vars) (b ∷ s) (suc x) v sorts is = of_sort o vars s x v sorts.1 is

-- ---- what is read of a list with one more value

pub set_here : {A : Type 0} (xs : List A) (i : ℕ) (x : A) → i < length xs → slice_get (set xs i x) i ≡ Some x
set_here [] i x within = absurd (omega (arith, within))
set_here (y ∷ ys) zero x within = refl
set_here (y ∷ ys) (suc i) x within = set_here ys i x (omega (arith, within))

pub set_other : {A : Type 0} (xs : List A) (i j : ℕ) (x : A) → ((j ≡ i) → ⊥) → slice_get (set xs i x) j ≡ slice_get xs j
set_other [] i j x differ = refl
set_other (y ∷ ys) zero zero x differ = absurd (differ refl)
set_other (y ∷ ys) zero (suc j) x differ = refl
set_other (y ∷ ys) (suc i) zero x differ = refl
set_other (y ∷ ys) (suc i) (suc j) x differ = set_other ys i j x (λ e. differ (ap suc e))

set_length : {A : Type 0} (xs : List A) (i : ℕ) (x : A) → length (set xs i x) ≡ length xs
set_length [] i x = refl
set_length (y ∷ ys) zero x = refl
set_length (y ∷ ys) (suc i) x = ap suc (set_length ys i x)

pub set_map : {A B : Type 0} (f : A → B) (xs : List A) (i : ℕ) (x : A) → map f (set xs i x) ≡ set (map f xs) i (f x)
set_map f [] i x = refl
set_map f (y ∷ ys) zero x = refl
set_map f (y ∷ ys) (suc i) x = ap (λ zs. f y ∷ zs) (set_map f ys i x)

pub same_or_not : (i j : ℕ) → (i ≡ j) ⊎ ((i ≡ j) → ⊥)
same_or_not zero zero = inl refl
same_or_not zero (suc j) = inr (λ e. omega (arith, e))
same_or_not (suc i) zero = inr (λ e. omega (arith, e))
same_or_not (suc i) (suc j) = elim (same_or_not i j) [ inl e ↦ inl (ap suc e) | inr n ↦ inr (λ e. n (omega (arith, e))) ]

pub get_within : {A : Type 0} (xs : List A) (i : ℕ) (x : A) → slice_get xs i ≡ Some x → i < length xs
get_within [] i x is = cc
get_within (y ∷ ys) zero x is = omega arith
get_within (y ∷ ys) (suc i) x is = let more = get_within ys i x is in omega (arith, more)

get_past : {A : Type 0} (xs : List A) (i : ℕ) → length xs ≤ i → slice_get xs i ≡ None
get_past [] i past = refl
get_past (y ∷ ys) zero past = absurd (omega (arith, past))
get_past (y ∷ ys) (suc i) past = get_past ys i (omega (arith, past))

-- ---- the outcomes

module _ (o : SortOrder) (vars : List ℕ) (p : Partial) (suited : AreSuited o vars p) (x : ℕ) (v : Value) where
  abbrev Holds : Subst → Type 0
  Holds s = value_at s x ≡ Some v

  -- it stands for this value
  bound_before : slice_get p x ≡ Some (Some v) → Tells o vars true p p Holds
  bound_before is = λ s sorts. (λ agrees holds. agrees, λ agrees. (agrees, agrees x v is))

  -- it stands for another one, or has no place
  bound_otherwise : (known : Option (Option Value)) → slice_get p x ≡ known → known ≢ Some (Some v) → known ≢ Some None → Tells o vars false p p Holds
  bound_otherwise None is other bound = λ s sorts agrees holds.
      let found = of_sort o vars s x v sorts holds in
      let within : x < length vars = get_within vars x found.0 found.1 in
      let count : length p ≡ length vars = suited.count in
      some_there p x (omega (arith, within, count)) is
    where
      some_there : {A : Type 0} (xs : List A) (i : ℕ) → i < length xs → slice_get xs i ≡ None → ⊥
      some_there [] i within none = omega (arith, within)
      some_there (y ∷ ys) zero within none = cc
      some_there (y ∷ ys) (suc i) within none = some_there ys i (omega (arith, within)) none
  bound_otherwise (Some None) is other bound = absurd (bound refl)
  bound_otherwise (Some (Some w)) is other bound = λ s sorts agrees holds. other (ap (λ u. Some (Some u)) (same_some w v (sym (agrees x w is) ∙ holds)))

  pub told : (same : Bool) → IsCompared p x v (Some same) → Tells o vars same p p Holds
  told true is = bound_before is
  told false is = bound_otherwise (slice_get p x) refl is.0 is.1

  -- its sort is not above the value's
  pub of_other_sort : (sort : ℕ) → slice_get vars x ≡ Some sort → (Below o (least_sort o v) sort → ⊥) → (after : Partial) → Tells o vars false p after Holds
  of_other_sort sort is above after = λ s sorts agrees holds.
      let found = of_sort o vars s x v sorts holds in
      above (subst (λ k. Below o (least_sort o v) k) (same_some found.0 sort (sym found.1 ∙ is)) found.2)

  -- it is bound now
  module _ (free : slice_get p x ≡ Some None) where
    abbrev now : Partial
    now = set p x (Some v)

    others : (y : ℕ) (w : Value) → slice_get p y ≡ Some (Some w) → slice_get now y ≡ Some (Some w)
    others y w is = set_other p x y (Some v) (λ e. none_some (sym free ∙ ap (slice_get p) (sym e) ∙ is)) ∙ is
      where
        none_some : Some None ≡ Some (Some w) → ⊥
        none_some e = cc

    here : slice_get now x ≡ Some (Some v)
    here = set_here p x (Some v) (get_within p x None free)

    -- what is bound now was bound, or is this
    is_now : (y : ℕ) (w : Value) → slice_get now y ≡ Some (Some w) → ((y ≡ x) × (w ≡ v)) ⊎ (slice_get p y ≡ Some (Some w))
    is_now y w is =
        elim (same_or_not y x) [
          | inl e ↦ inl (e, same_some w v (same_some (Some w) (Some v) (sym is ∙ ap (slice_get now) e ∙ here)))
          | inr n ↦ inr (sym (set_other p x y (Some v) n) ∙ is)
        ]

    pub bound_now : Tells o vars true p now Holds
    bound_now = λ s sorts. (
      (λ agrees holds y w is. elim (is_now y w is) [ inl e ↦ ap (value_at s) e.0 ∙ holds ∙ ap Some (sym e.1) | inr was ↦ agrees y w was ]),
      (λ agrees. ((λ y w was. agrees y w (others y w was)), agrees x v here)),
    )

    pub suited_now : (sort : ℕ) → slice_get vars x ≡ Some sort → Below o (least_sort o v) sort → AreSuited o vars now
    suited_now sort is below = record {
      count = set_length p x (Some v) ∙ suited.count;
      sorts = λ y w other there its. elim (is_now y w there) [
        | inl e ↦ subst (λ u. Below o (least_sort o u) other) (sym e.1)
            (subst (λ k. Below o (least_sort o v) k) (same_some sort other (sym is ∙ ap (slice_get vars) (sym e.0) ∙ its)) below)
        | inr was ↦ suited.sorts y w other was its
      ];
    }

-- ---- over what is lent

module _ (bounds : List (Option Lent)) (x : ℕ) where
  pub free_within : slice_get (partial_of bounds) x ≡ Some None → x < length bounds
  free_within free = subst (λ n. x < n) (length-map bounds (option_map meaning)) (get_within (partial_of bounds) x None free)

  module _ (o : SortOrder) (vars : List ℕ) (suited : AreSuited o vars (partial_of bounds)) (free : slice_get (partial_of bounds) x ≡ Some None) where
    pub in_vars : x < length vars
    in_vars = subst (λ n. x < n) suited.count (get_within (partial_of bounds) x None free)

    module _ (lent : Lent) where
      same : partial_of (set bounds x (Some lent)) ≡ set (partial_of bounds) x (Some (meaning lent))
      same = set_map (option_map meaning) bounds x (Some lent)

      pub lent_now : Tells o vars true (partial_of bounds) (partial_of (set bounds x (Some lent))) (λ s. value_at s x ≡ Some (meaning lent))
      lent_now = subst (λ p. Tells o vars true (partial_of bounds) p (λ s. value_at s x ≡ Some (meaning lent))) (sym same) (bound_now o vars (partial_of bounds) suited x (meaning lent) free)

      pub lent_suited : (d : ℕ) → Below o (least_sort o (meaning lent)) (get_or vars x d) → AreSuited o vars (partial_of (set bounds x (Some lent)))
      lent_suited d below =
          subst (AreSuited o vars) (sym same) (suited_now o vars (partial_of bounds) suited x (meaning lent) free (get_or vars x d) (slice_get-get_or vars x d in_vars) below)

      pub lent_above : (d : ℕ) → (Below o (least_sort o (meaning lent)) (get_or vars x d) → ⊥) → Tells o vars false (partial_of bounds) (partial_of bounds) (λ s. value_at s x ≡ Some (meaning lent))
      lent_above d above =
          of_other_sort o vars (partial_of bounds) suited x (meaning lent) (get_or vars x d) (slice_get-get_or vars x d in_vars) above (partial_of bounds)
