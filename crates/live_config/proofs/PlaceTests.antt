-- The derived tests of places and of paths are those of the definitions.
use Rattle.std.proofs.Common.{◌≡◌, ◌+◌, ℕ, suc, zero, true, false, ◌&&◌, ◌==◌, ◌∙◌, List, [], ◌∷◌, ◌++◌, length, drop, get_or, refl, ap, cond, Some, None, arith, ◌<◌, ◌≤◌}
use Rattle.std.specs.Prelude.{nat_eq}
use Rattle.std.specs.Cmp.Lexicographic.{pointwise}
use Rattle.std.specs.List.{starts_with}
use Rattle.k_terms.proofs.OrderLaws.{derived_eq-is}
use Rattle.live_config.specs.declared.place.End.{End}
use Rattle.live_config.specs.declared.place.End.TheVariants.{Whole, Key, Here, Number}
use Rattle.live_config.specs.declared.place.Place.{Place}
use Rattle.live_config.specs.contracts.place.EndPartialEq.TheImpl as ends
use Rattle.live_config.specs.contracts.place.PlacePartialEq.TheImpl as places
use Rattle.live_config.specs.Places.{same_end, same_path, is_same_place, begins, overlaps, first_over, first_of, first_pair}

pub path_eq : (ns ms : List ℕ) → pointwise nat_eq ns ms ≡ same_path ns ms
path_eq [] [] = refl
path_eq [] (m ∷ ms) = refl
path_eq (n ∷ ns) [] = refl
path_eq (n ∷ ns) (m ∷ ms) = ap (λ b. (n == m) && b) (path_eq ns ms)

pub path_begins : (ns ms : List ℕ) → starts_with nat_eq ms ns ≡ begins ns ms
path_begins [] ms = refl
path_begins (n ∷ ns) [] = refl
path_begins (n ∷ ns) (m ∷ ms) = ap (λ b. (n == m) && b) (path_begins ns ms)

pub end_eq : (a b : End) → ends.ghosts.eq a b ≡ same_end a b
end_eq Whole Whole = refl
end_eq Whole (Key w) = refl
end_eq Whole Here = refl
end_eq Whole (Number m) = refl
end_eq (Key v) Whole = refl
end_eq (Key v) (Key w) = derived_eq-is v w
end_eq (Key v) Here = refl
end_eq (Key v) (Number m) = refl
end_eq Here Whole = refl
end_eq Here (Key w) = refl
end_eq Here Here = refl
end_eq Here (Number m) = refl
end_eq (Number n) Whole = refl
end_eq (Number n) (Key w) = refl
end_eq (Number n) Here = refl
end_eq (Number n) (Number m) = refl

pub place_eq : (a b : Place) → places.ghosts.eq a b ≡ is_same_place a b
place_eq a b = (λ i. path_eq a.path b.path i && end_eq a.end b.end i)

-- ---- the first overlapped place, from a place of the list on

module _ (a : Place) where
  pub over_here : (xs : List Place) (i : ℕ) (x : Place) → i < length xs → x ≡ get_or xs i x → overlaps a x ≡ true → first_over a (drop i xs) ≡ Some (a, x)
  over_here [] i x within here over = absurd (omega (arith, within))
  over_here (y ∷ xs) zero x within here over = rw (← here, over) refl
  over_here (y ∷ xs) (suc i) x within here over = over_here xs i x (omega (arith, within)) here over

  pub over_next : (xs : List Place) (i : ℕ) (x : Place) → i < length xs → x ≡ get_or xs i x → overlaps a x ≡ false → first_over a (drop i xs) ≡ first_over a (drop (i + 1) xs)
  over_next [] i x within here apart = absurd (omega (arith, within))
  over_next (y ∷ xs) zero x within here apart = rw (← here, apart) refl
  over_next (y ∷ xs) (suc i) x within here apart = over_next xs i x (omega (arith, within)) here apart ∙ ap (λ k. first_over a (drop k (y ∷ xs))) {x = suc (i + 1)} {y = suc i + 1} (omega arith)

  pub over_end : (xs : List Place) (i : ℕ) → length xs ≤ i → first_over a (drop i xs) ≡ None
  over_end [] zero past = refl
  over_end [] (suc i) past = refl
  over_end (y ∷ xs) zero past = absurd (omega (arith, past))
  over_end (y ∷ xs) (suc i) past = over_end xs i (omega (arith, past))

  pub over_append : (xs ys : List Place) → first_over a (xs ++ ys) ≡ first_of (first_over a xs) (first_over a ys)
  over_append [] ys = refl
  over_append (x ∷ xs) ys =
      elim (overlaps a x) as (λ b. cond b (Some (a, x)) (first_over a (xs ++ ys)) ≡ first_of (cond b (Some (a, x)) (first_over a xs)) (first_over a ys)) [ true ↦ refl | false ↦ over_append xs ys ]

-- ---- the first pair, from a place of the first list on

module _ (bs : List Place) where
  pub pair_here : (xs : List Place) (i : ℕ) (x : Place) (p : Place × Place) → i < length xs → x ≡ get_or xs i x → first_over x bs ≡ Some p → first_pair (drop i xs) bs ≡ Some p
  pair_here [] i x p within here over = absurd (omega (arith, within))
  pair_here (y ∷ xs) zero x p within here over = rw (← here, over) refl
  pair_here (y ∷ xs) (suc i) x p within here over = pair_here xs i x p (omega (arith, within)) here over

  pub pair_next : (xs : List Place) (i : ℕ) (x : Place) → i < length xs → x ≡ get_or xs i x → first_over x bs ≡ None → first_pair (drop i xs) bs ≡ first_pair (drop (i + 1) xs) bs
  pair_next [] i x within here apart = absurd (omega (arith, within))
  pair_next (y ∷ xs) zero x within here apart = rw (← here, apart) refl
  pair_next (y ∷ xs) (suc i) x within here apart = pair_next xs i x (omega (arith, within)) here apart ∙ ap (λ k. first_pair (drop k (y ∷ xs)) bs) {x = suc (i + 1)} {y = suc i + 1} (omega arith)

  pub pair_end : (xs : List Place) (i : ℕ) → length xs ≤ i → first_pair (drop i xs) bs ≡ None
  pair_end [] zero past = refl
  pair_end [] (suc i) past = refl
  pair_end (y ∷ xs) zero past = absurd (omega (arith, past))
  pair_end (y ∷ xs) (suc i) past = pair_end xs i (omega (arith, past))
