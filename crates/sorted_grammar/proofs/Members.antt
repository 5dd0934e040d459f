-- Members of lists.
use Rattle.std.proofs.Common.{arith, inl, inr, ◌≡◌, ℕ, suc, zero, ◌<◌, ◌≤◌, ◌+◌, true, false, ◌&&◌, eqb, List, [], ◌∷◌, length, get_or, take, refl, sym, subst, ◌∙◌}
use Rattle.std.proofs.lemmas.Bool.{and_parts, and_from, eqb-true, eq-eqb, false≢true}
use Rattle.std.specs.List.{flat_map}
use Rattle.std.specs.Prelude.{slice_get, Contains, Some}
use Rattle.std.proofs.lemmas.List.{take_more, take_all}
use Rattle.std.proofs.lemmas.Option.{get_or_from_slice_get, slice_get_within}
use Rattle.grammar_terms.specs.Cuts.{Has}
use Rattle.grammar_terms.proofs.Cutting.{has_left, has_right, has_either}

module _ {X : Type 0} where
  pub has_at : (xs : List X) (k : ℕ) (d : X) → k < length xs → Has xs (get_or xs k d)
  has_at [] k d within = absurd (omega (arith, within))
  has_at (x ∷ xs) zero d within = inl refl
  has_at (x ∷ xs) (suc k) d within = inr (has_at xs k d (omega (arith, within)))

  pub has_contained : (xs : List X) (x : X) → Contains xs x → Has xs x
  has_contained xs x (k, within, is) = subst (Has xs) is (has_at xs k x within)

  pub has_got : (xs : List X) (k : ℕ) (x : X) → slice_get xs k ≡ Some x → Has xs x
  has_got xs k x is = subst (Has xs) (get_or_from_slice_get xs k x x is) (has_at xs k x (slice_get_within xs k x is))

  -- what is said of the members so far, and of the next one
  pub none_more : (P : X → Type 0) (xs : List X) (i : ℕ) (x : X) → i < length xs → x ≡ get_or xs i x → ((y : X) → Has (take i xs) y → P y) → P x
      → (y : X) → Has (take (i + 1) xs) y → P y
  none_more P xs i x within is before here y has =
      elim (has_either (take i xs) (get_or xs i x ∷ []) y (subst (λ ys. Has ys y) (take_more xs i x within) has)) [
        | inl front ↦ before y front
        | inr back ↦ elim back [ inl same ↦ subst P (is ∙ same) here | inr none ↦ absurd none ]
      ]

  pub none_at_all : (P : X → Type 0) (xs : List X) (i : ℕ) → length xs ≤ i → ((y : X) → Has (take i xs) y → P y) → (y : X) → Has xs y → P y
  none_at_all P xs i past before y has = before y (subst (λ ys. Has ys y) (sym (take_all i xs past)) has)

pub has_flat : {X Y : Type 0} (f : X → List Y) (xs : List X) (x : X) (y : Y) → Has xs x → Has (f x) y → Has (flat_map f xs) y
has_flat f [] x y has here = has
has_flat f (z ∷ xs) x y (inl same) here = has_left (f z) (flat_map f xs) y (subst (λ w. Has (f w) y) (sym same) here)
has_flat f (z ∷ xs) x y (inr has) here = has_right (f z) (flat_map f xs) y (has_flat f xs x y has here)

pub of_flat : {X Y : Type 0} (f : X → List Y) (xs : List X) (y : Y) → Has (flat_map f xs) y → (x : X) × Has xs x × Has (f x) y
of_flat f [] y has = absurd has
of_flat f (x ∷ xs) y has = elim (has_either (f x) (flat_map f xs) y has) [
  | inl front ↦ (x, inl refl, front)
  | inr back ↦ let found = of_flat f xs y back in (found.0, inr found.1, found.2)
]

-- a step from a sort to itself
pub pair_here : (steps : List (ℕ × ℕ)) (i s : ℕ) → i < length steps → (eqb (get_or steps i (0, 0)).0 s && eqb (get_or steps i (0, 0)).1 s) ≡ true → Has steps (s, s)
pair_here steps i s within is =
    let x = get_or steps i (0, 0) in
    let parts = and_parts (eqb x.0 s) (eqb x.1 s) is in
    subst (Has steps) (λ j. (eqb-true x.0 s parts.0 j, eqb-true x.1 s parts.1 j)) (has_at steps i (0, 0) within)

pub pair_later : (steps : List (ℕ × ℕ)) (i s : ℕ) → i < length steps → (eqb (get_or steps i (0, 0)).0 s && eqb (get_or steps i (0, 0)).1 s) ≡ false → (Has (take i steps) (s, s) → ⊥)
    → Has (take (i + 1) steps) (s, s) → ⊥
pair_later steps i s within differ before has =
    let x = get_or steps i (0, 0) in
    elim (has_either (take i steps) (x ∷ []) (s, s) (subst (λ xs. Has xs (s, s)) (take_more steps i (0, 0) within) has)) [
      | inl front ↦ before front
      | inr back ↦ elim back [
        | inl same ↦
            let here : (eqb s s && eqb s s) ≡ false = subst (λ (y : ℕ × ℕ). (eqb y.0 s && eqb y.1 s) ≡ false) same differ in
            let both : (eqb s s && eqb s s) ≡ true = and_from (eqb s s) (eqb s s) (eq-eqb s s refl) (eq-eqb s s refl) in
            false≢true (sym here ∙ both)
        | inr none ↦ absurd none
      ]
    ]
