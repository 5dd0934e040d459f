-- Lists that are gone through from one place to the next.
use Rattle.std.proofs.Common.{◌≡◌, inl, inr, ℕ, zero, suc, ◌+◌, ◌<◌, ◌≤◌, List, [], ◌∷◌, ◌++◌, length, get_or, drop, refl, sym, ap, ◌∙◌, arith, add-one, drop-cons, append-nil}
use Rattle.std.proofs.lemmas.Option.{slice_get_cases}
use Rattle.std.specs.Prelude.{None, slice_get}

pub drop_here : {X : Type 0} (xs : List X) (other : X) (at : ℕ) → at < length xs → drop at xs ≡ get_or xs at other ∷ drop (at + 1) xs
drop_here xs other at within = drop-cons xs at other within ∙ ap (λ n. get_or xs at other ∷ drop n xs) (sym (add-one at))

-- at a place where an item is
pub drop_at : {X : Type 0} (xs : List X) (x : X) (at : ℕ) → at < length xs → x ≡ get_or xs at x → drop at xs ≡ x ∷ drop (at + 1) xs
drop_at xs x at within is = drop_here xs x at within ∙ ap (λ y. y ∷ drop (at + 1) xs) (sym is)

drop_whole : {X : Type 0} (xs : List X) (i : ℕ) → length xs ≤ i → drop i xs ≡ []
drop_whole [] zero past = refl
drop_whole [] (suc i) past = refl
drop_whole (x ∷ xs) zero past = absurd (omega (arith, past))
drop_whole (x ∷ xs) (suc i) past = drop_whole xs i (omega (arith, past))

-- what is left at the end is nothing
pub none_left : {X Y : Type 0} (rest : List X → List Y) (xs : List X) (i : ℕ) (found whole : List Y) → rest [] ≡ [] → length xs ≤ i
    → found ++ rest (drop i xs) ≡ whole → found ≡ whole
none_left rest xs i found whole empty past kept =
    sym (append-nil found) ∙ ap (λ ys. found ++ ys) (sym (ap rest (drop_whole xs i past) ∙ empty)) ∙ kept

pub slice_past : {X : Type 0} (xs : List X) (i : ℕ) → length xs ≤ i → slice_get xs i ≡ None
slice_past xs i past = elim (slice_get_cases xs i).1 [
  | inl found ↦ absurd (omega (arith, past, found.1))
  | inr missing ↦ missing.1
]
