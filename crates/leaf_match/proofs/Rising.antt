-- The places of a lent map rise.
use Rattle.std.proofs.Common.{◌≡◌, ℕ, zero, suc, ◌==◌, Bool, true, false, ◌||◌, cond, List, [], ◌∷◌, set, refl, sym, ap, subst, ◌∙◌, inl, inr, map}
use Rattle.std.specs.Prelude.{Option, Some, None, slice_get}
use Rattle.std.specs.Option.{option_map}
use Rattle.std.specs.List.{AllByRecursion, IsDistinct}
use Rattle.std.specs.List.Sorted.{IsPermutation, IsSorted, IsStrictlyIncreasing}
use Rattle.std.specs.Ordering.{nat_cmp}
use Rattle.std.proofs.lemmas.List.Sorted.{IsNonDecreasingBy-from_sort, list_any-IsPermutation}
use Rattle.std.proofs.lemmas.Map.Keys.{IsDistinct-IsPermutation, IsStrictlyIncreasing-from_distinct}
use Rattle.std.proofs.lemmas.Bool.{eqb-true, eq-eqb}
use Rattle.k_terms.specs.declared.value.Value.{Value}
use Rattle.rule_terms.specs.Numbers.{has_number}
use Rattle.leaf_match.specs.declared.bound.Bound.{Bound as Lent}
use Rattle.leaf_match.specs.Bindings.{kept, meaning, partial_of, HasRisingPlaces, HaveRisingPlaces}
use Rattle.leaf_match.specs.Maps.{Entries, keys_of, KeysDiffer, PickedAt, ArePlaces}
use Rattle.leaf_match.proofs.Binding.{set_other, same_or_not}
use Rattle.leaf_match.proofs.KeyPlaces.{place_same}

-- ---- the places of keys that differ

flip : (m n : ℕ) → (m == n) ≡ false → (n == m) ≡ false
flip m n apart = told (n == m) refl
  where
    told : (b : Bool) → (n == m) ≡ b → (n == m) ≡ false
    told true t = let no : true ≡ false = sym (eq-eqb m n (sym (eqb-true n m t))) ∙ apart in cc
    told false t = t

either : (a b : Bool) → (a || b) ≡ false → (a ≡ false) × (b ≡ false)
either true b e = cc
either false b e = (refl, e)

none_of : (ps : List ℕ) (p : ℕ) → has_number ps p ≡ false → AllByRecursion (λ q. (p == q) ≡ false) ps
none_of [] p none = tt
none_of (q ∷ ps) p none = let parts = either (q == p) (has_number ps p) none in (flip q p parts.0, none_of ps p parts.1)

picked_differ : (c : Entries) (ps : List ℕ) (es : Entries) → PickedAt c ps es → KeysDiffer (keys_of es) → IsDistinct ◌==◌ ps
unfolding IsDistinct
picked_differ c [] [] picked differ = tt
picked_differ c [] (e ∷ es) picked differ = absurd picked
picked_differ c (p ∷ ps) [] picked differ = absurd picked
picked_differ c (p ∷ ps) (e ∷ es) picked differ = (none_of ps p (absent (has_number ps p) refl), picked_differ c ps es picked.1 differ.1)
  where
    absent : (b : Bool) → has_number ps p ≡ b → has_number ps p ≡ false
    absent true has = let no : true ≡ false = sym (place_same c ps es p e.0 e.1 picked.1 picked.0 has) ∙ differ.0 in cc
    absent false has = has

pub places_differ : (c : Entries) (ks : List Value) (ps : List ℕ) → ArePlaces c ks (Some ps) → IsDistinct ◌==◌ ps
places_differ c ks ps places = picked_differ c ps places.0 places.1 (subst KeysDiffer (sym places.2) places.3)

-- the same places keep the same
pub kept_alike : {A : Type 0} (at : ℕ) (ps qs : List ℕ) (xs : List A) → ((n : ℕ) → has_number ps n ≡ has_number qs n) → kept at ps xs ≡ kept at qs xs
kept_alike at ps qs [] same = refl
kept_alike at ps qs (x ∷ xs) same = λ i. cond (same at i) (kept_alike (suc at) ps qs xs same i) (x ∷ kept_alike (suc at) ps qs xs same i)

-- ---- numbers that are sorted

flips : (m n : ℕ) → (m == n) ≡ (n == m)
flips m n = told (m == n) refl
  where
    told : (b : Bool) → (m == n) ≡ b → (m == n) ≡ (n == m)
    told true t = t ∙ sym (eq-eqb n m (sym (eqb-true m n t)))
    told false t = t ∙ sym (flip m n t)

module _ (ns sorted result : List ℕ) (moves : IsPermutation ns sorted) where
  pub rise_in_order : IsSorted nat_cmp sorted → result ≡ sorted → IsDistinct ◌==◌ ns → IsStrictlyIncreasing result
  rise_in_order sorts is differ =
      subst IsStrictlyIncreasing (sym is)
      (IsStrictlyIncreasing-from_distinct sorted (IsNonDecreasingBy-from_sort (λ n. n) sorted sorts) (IsDistinct-IsPermutation ◌==◌ flips ns sorted moves differ))

  pub same_numbers : result ≡ sorted → (at : ℕ) → has_number result at ≡ has_number ns at
  same_numbers is at = ap (λ ms. has_number ms at) is ∙ sym (list_any-IsPermutation (λ m. m == at) ns sorted moves)

-- ---- what is lent

lent_is : (a b : Lent) → Some (Some a) ≡ Some (Some b) → a ≡ b
lent_is a b e = cc

pub set_rising : (bounds : List (Option Lent)) (x : ℕ) (lent : Lent) → HasRisingPlaces lent → HaveRisingPlaces bounds → HaveRisingPlaces (set bounds x (Some lent))
set_rising bounds x lent rises all = λ y other is.
    elim (same_or_not y x) [
      | inl e ↦ subst HasRisingPlaces (here y other is e) rises
      | inr differ ↦ all y other (sym (set_other bounds x y (Some lent) differ) ∙ is)
    ]
  where
    inside : (bs : List (Option Lent)) (i : ℕ) (o : Lent) → slice_get (set bs i (Some lent)) i ≡ Some (Some o) → lent ≡ o
    inside [] i o is = cc
    inside (b ∷ bs) zero o is = lent_is lent o is
    inside (b ∷ bs) (suc i) o is = inside bs i o is

    here : (y : ℕ) (other : Lent) → slice_get (set bounds x (Some lent)) y ≡ Some (Some other) → y ≡ x → lent ≡ other
    here y other is e = inside bounds x other (ap (slice_get (set bounds x (Some lent))) (sym e) ∙ is)

-- nothing is lent where nothing is bound
none_there : (x : ℕ) (lent : Lent) → slice_get [] x ≡ Some (Some lent) → ⊥
none_there x lent at = cc

some_none : (v : Value) (xs ys : List (Option Value)) → Some v ∷ xs ≡ None ∷ ys → ⊥
some_none v xs ys e = cc

not_short : (known : Option Value) (xs : List (Option Value)) → known ∷ xs ≡ [] → ⊥
not_short known xs e = cc

rest_is : (xs ys : List (Option Value)) → None ∷ xs ≡ None ∷ ys → xs ≡ ys
rest_is xs ys e = cc

not_first : (lent : Lent) → Some None ≡ Some (Some lent) → ⊥
not_first lent e = cc

pub free_rising : (bounds : List (Option Lent)) (vars : List ℕ) → partial_of bounds ≡ map (λ (sort : ℕ). None) vars → HaveRisingPlaces bounds
free_rising [] vars is x lent at = absurd (none_there x lent at)
free_rising (bound ∷ bounds) [] is x lent at = absurd (not_short (option_map meaning bound) (partial_of bounds) is)
free_rising (Some known ∷ bounds) (sort ∷ vars) is x lent at = absurd (some_none (meaning known) (partial_of bounds) (map (λ (s : ℕ). None) vars) is)
free_rising (None ∷ bounds) (sort ∷ vars) is zero lent at = absurd (not_first lent at)
free_rising (None ∷ bounds) (sort ∷ vars) is (suc x) lent at = free_rising bounds vars (rest_is (partial_of bounds) (map (λ (s : ℕ). None) vars) is) x lent at
