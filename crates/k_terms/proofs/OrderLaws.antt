-- What follows for the order of values: the derived order is it, it is total, and only equal values tie.
use Rattle.std.proofs.Common.{◌≡◌, ◌≢◌, ◌⊎◌, ◌↔◌, Bool, true, false, IsTrue, Decides, List, [], ◌∷◌, map, inl, inr, refl, sym, ap, ◌∙◌, subst, true≢false}
use Rattle.std.specs.declared.cmp.Ordering.{Ordering}
use Rattle.std.specs.declared.cmp.Ordering.TheVariants.{Less, Equal, Greater}
use Rattle.std.specs.Ordering.{nat_cmp, bool_cmp, ordering_then, is_eq}
use Rattle.std.specs.Cmp.{IsTotalOrder, Equal-is, tied_itself}
use Rattle.std.specs.Cmp.Lexicographic.{slice_cmp}
use Rattle.std.specs.FinMap.{IsAntisymmetric, nat_cmp-IsAntisymmetric, int_cmp-IsAntisymmetric, slice_cmp-IsAntisymmetric}
use Rattle.k_terms.specs.declared.value.Value.{Value, Value-F, out-Value, roll-Value, out-roll-Value, roll-out-Value, ind-Value, map-Value}
use Rattle.k_terms.specs.declared.value.Value.TheOpen.{Int as Int-F, Bool as Truth-F, Str as Str-F, Id as Id-F, Node as Node-F, Items as Items-F, Seq as Seq-F, Map as Map-F, List as List-F, Freezer as Freezer-F}
use Rattle.k_terms.specs.contracts.value.ValueOrd.TheImpl.Laws.{total-law, matches_eq-law}
use Rattle.k_terms.specs.contracts.value.ValuePartialEq.TheImpl as equal
use Rattle.k_terms.specs.Value.{value_cmp}
use Rattle.k_terms.proofs.Levels.{entry_cmp, level_cmp, value_cmp_levels, derived_cmp, derived_levels}

-- ---- a change of the parts

module _ {A B C : Type 0} (f : A → B) (R : B → C → Ordering) where
  slice_cmp-map : (xs : List A) (ys : List C) → slice_cmp R (map f xs) ys ≡ slice_cmp (λ x y. R (f x) y) xs ys
  slice_cmp-map [] [] = refl
  slice_cmp-map [] (y ∷ ys) = refl
  slice_cmp-map (x ∷ xs) [] = refl
  slice_cmp-map (x ∷ xs) (y ∷ ys) = ap (ordering_then (R (f x) y)) (slice_cmp-map xs ys)

  entries_cmp-map : (xs : List (A × A)) (ys : List (C × C)) → slice_cmp (entry_cmp R) (map (λ p. (f p.0, f p.1)) xs) ys ≡ slice_cmp (entry_cmp (λ x y. R (f x) y)) xs ys
  entries_cmp-map [] [] = refl
  entries_cmp-map [] (y ∷ ys) = refl
  entries_cmp-map (x ∷ xs) [] = refl
  entries_cmp-map (x ∷ xs) (y ∷ ys) = ap (ordering_then (entry_cmp (λ u v. R (f u) v) x y)) (entries_cmp-map xs ys)

  level_cmp-map : (x : Value-F A) (y : Value-F C) → level_cmp R (map-Value A B f x) y ≡ level_cmp (λ u v. R (f u) v) x y
  level_cmp-map (Node-F p xs) (Node-F q ys) = ap (ordering_then (nat_cmp p q)) (slice_cmp-map xs ys)
  level_cmp-map (Items-F p xs) (Items-F q ys) = ap (ordering_then (nat_cmp p q)) (slice_cmp-map xs ys)
  level_cmp-map (Seq-F xs) (Seq-F ys) = slice_cmp-map xs ys
  level_cmp-map (Map-F xs) (Map-F ys) = entries_cmp-map xs ys
  level_cmp-map (List-F xs) (List-F ys) = slice_cmp-map xs ys
  level_cmp-map (Freezer-F p i xs) (Freezer-F q j ys) = ap (λ r. ordering_then (nat_cmp p q) (ordering_then (nat_cmp i j) r)) (slice_cmp-map xs ys)
  level_cmp-map x y = refl

-- ---- only one order has the equation

module _ (R S : Value → Value → Ordering) (r : (a b : Value) → R a b ≡ level_cmp R (out-Value a) (out-Value b)) (s : (a b : Value) → S a b ≡ level_cmp S (out-Value a) (out-Value b)) where
  abbrev AreAlike : Value → Type 0
  AreAlike a = (b : Value) → R a b ≡ S a b

  rolled_alike : (x : Value-F Value) (y : Value-F ((a : Value) × AreAlike a)) → map-Value ((a : Value) × AreAlike a) Value (λ e. e.0) y ≡ x → (b : Value) → level_cmp R x (out-Value b) ≡ level_cmp S x (out-Value b)
  rolled_alike x y e b =
      ap (λ z. level_cmp R z (out-Value b)) (sym e)
      ∙ level_cmp-map (λ (p : (a : Value) × AreAlike a). p.0) R y (out-Value b)
      ∙ ap (λ T. level_cmp T y (out-Value b)) (λ i p w. p.1 w i)
      ∙ sym (level_cmp-map (λ (p : (a : Value) × AreAlike a). p.0) S y (out-Value b))
      ∙ ap (λ z. level_cmp S z (out-Value b)) e

  at_roll : (T : Value → Value → Ordering) → ((a b : Value) → T a b ≡ level_cmp T (out-Value a) (out-Value b)) → (x : Value-F Value) (b : Value) → T (roll-Value x) b ≡ level_cmp T x (out-Value b)
  at_roll T t x b = t (roll-Value x) b ∙ ap (λ z. level_cmp T z (out-Value b)) (out-roll-Value x)

  one_order : (a b : Value) → R a b ≡ S a b
  one_order = ind-Value AreAlike (λ x y e b. at_roll R r x b ∙ rolled_alike x y e b ∙ sym (at_roll S s x b))

-- the order of the derived `cmp` is the order of values
pub derived_cmp-is : (a b : Value) → derived_cmp a b ≡ value_cmp a b
derived_cmp-is = one_order derived_cmp value_cmp derived_levels value_cmp_levels

pub value_cmp_total : IsTotalOrder value_cmp
value_cmp_total = subst IsTotalOrder (λ i a b. derived_cmp-is a b i) total-law

-- ---- ties

first_tied : (r s : Ordering) → ordering_then r s ≡ Equal → r ≡ Equal
first_tied Less s e = e
first_tied Equal s e = refl
first_tied Greater s e = e

second_tied : (r s : Ordering) → ordering_then r s ≡ Equal → s ≡ Equal
second_tied Less s e = cc
second_tied Equal s e = e
second_tied Greater s e = cc

bool_tied : (x y : Bool) → bool_cmp x y ≡ Equal → x ≡ y
bool_tied true true e = refl
bool_tied false false e = refl
bool_tied true false e = cc
bool_tied false true e = cc

module _ {A B : Type 0} (f : A → B) (R : A → B → Ordering) (tied : (x : A) (y : B) → R x y ≡ Equal → f x ≡ y) where
  list_tied : (xs : List A) (ys : List B) → slice_cmp R xs ys ≡ Equal → map f xs ≡ ys
  list_tied [] [] e = refl
  list_tied [] (y ∷ ys) e = cc
  list_tied (x ∷ xs) [] e = cc
  list_tied (x ∷ xs) (y ∷ ys) e = λ i. tied x y (first_tied _ _ e) i ∷ list_tied xs ys (second_tied _ _ e) i

  entries_tied : (xs : List (A × A)) (ys : List (B × B)) → slice_cmp (entry_cmp R) xs ys ≡ Equal → map (λ p. (f p.0, f p.1)) xs ≡ ys
  entries_tied [] [] e = refl
  entries_tied [] (y ∷ ys) e = cc
  entries_tied (x ∷ xs) [] e = cc
  entries_tied (x ∷ xs) (y ∷ ys) e =
      let both : entry_cmp R x y ≡ Equal = first_tied _ _ e in
      λ i. (tied x.0 y.0 (first_tied _ _ both) i, tied x.1 y.1 (second_tied _ _ both) i) ∷ entries_tied xs ys (second_tied _ _ e) i

  level_tied : (x : Value-F A) (y : Value-F B) → level_cmp R x y ≡ Equal → map-Value A B f x ≡ y
  level_tied (Int-F x) (Int-F y) e = ap Int-F (int_cmp-IsAntisymmetric x y e)
  level_tied (Truth-F x) (Truth-F y) e = ap Truth-F (bool_tied x y e)
  level_tied (Str-F x) (Str-F y) e = ap Str-F (slice_cmp-IsAntisymmetric nat_cmp-IsAntisymmetric x y e)
  level_tied (Id-F x) (Id-F y) e = ap Id-F (λ i. record { 0 = nat_cmp-IsAntisymmetric x.0 y.0 e i })
  level_tied (Node-F p xs) (Node-F q ys) e = λ i. Node-F (nat_cmp-IsAntisymmetric p q (first_tied _ _ e) i) (list_tied xs ys (second_tied _ _ e) i)
  level_tied (Items-F p xs) (Items-F q ys) e = λ i. Items-F (nat_cmp-IsAntisymmetric p q (first_tied _ _ e) i) (list_tied xs ys (second_tied _ _ e) i)
  level_tied (Seq-F xs) (Seq-F ys) e = ap Seq-F (list_tied xs ys e)
  level_tied (Map-F xs) (Map-F ys) e = ap Map-F (entries_tied xs ys e)
  level_tied (List-F xs) (List-F ys) e = ap List-F (list_tied xs ys e)
  level_tied (Freezer-F p j xs) (Freezer-F q k ys) e =
      let rest : ordering_then (nat_cmp j k) (slice_cmp R xs ys) ≡ Equal = second_tied _ _ e in
      λ i. Freezer-F (nat_cmp-IsAntisymmetric p q (first_tied _ _ e) i) (nat_cmp-IsAntisymmetric j k (first_tied _ _ rest) i) (list_tied xs ys (second_tied _ _ rest) i)
  level_tied x y e = cc

abbrev TiesOnlyItself : Value → Type 0
TiesOnlyItself a = (b : Value) → value_cmp a b ≡ Equal → a ≡ b

-- Only equal values tie.
pub value_cmp_ties : (a b : Value) → value_cmp a b ≡ Equal → a ≡ b
value_cmp_ties = ind-Value TiesOnlyItself (λ x y e b tie.
    let at : level_cmp (λ (p : (a : Value) × TiesOnlyItself a) w. value_cmp p.0 w) y (out-Value b) ≡ Equal =
    sym (level_cmp-map (λ (p : (a : Value) × TiesOnlyItself a). p.0) value_cmp y (out-Value b))
    ∙ ap (λ z. level_cmp value_cmp z (out-Value b)) e
    ∙ ap (λ z. level_cmp value_cmp z (out-Value b)) (sym (out-roll-Value x))
    ∙ sym (value_cmp_levels (roll-Value x) b)
    ∙ tie in
    ap roll-Value (sym e ∙ level_tied (λ (p : (a : Value) × TiesOnlyItself a). p.0) (λ p w. value_cmp p.0 w) (λ p w t. p.1 w t) y (out-Value b) at) ∙ roll-out-Value b)

pub value_cmp_antisymmetric : IsAntisymmetric value_cmp
value_cmp_antisymmetric = value_cmp_ties

pub value_cmp_itself : (a : Value) → value_cmp a a ≡ Equal
value_cmp_itself = tied_itself value_cmp_total

-- ---- the test of equality

pub is_eq-value_cmp : (a b : Value) (r : Bool) → r ≡ is_eq (value_cmp a b) → IsTrue r ↔ (a ≡ b)
is_eq-value_cmp a b r e = (
  λ t. value_cmp_ties a b ((Equal-is (value_cmp a b)).0 (sym e ∙ t)),
  λ p. e ∙ ap is_eq (ap (value_cmp a) (sym p) ∙ value_cmp_itself a),
)

-- the test of the derived `==` is that of the order
pub derived_eq-is : (a b : Value) → equal.ghosts.eq a b ≡ is_eq (value_cmp a b)
derived_eq-is a b = matches_eq-law a b ∙ ap is_eq (derived_cmp-is a b)

-- Whether two values are equal is decided.
pub value_eq_decides : (a b : Value) → Decides (is_eq (value_cmp a b)) (a ≡ b)
value_eq_decides a b = is_eq-value_cmp a b (is_eq (value_cmp a b)) refl

pub value_dec : (a b : Value) → (a ≡ b) ⊎ (a ≢ b)
value_dec a b = elim (is_eq (value_cmp a b)) as (λ t. is_eq (value_cmp a b) ≡ t → (a ≡ b) ⊎ (a ≢ b)) [
  | true ↦ λ e. inl ((value_eq_decides a b).0 e)
  | false ↦ λ e. inr (λ p. true≢false (sym ((value_eq_decides a b).1 p) ∙ e))
] refl
