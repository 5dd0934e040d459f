-- The front of a list, item by item.
use Rattle.std.proofs.Common.{arith, ◌≡◌, inl, inr, ℕ, ◌+◌, ◌≤◌, ◌<◌, List, [], ◌∷◌, ◌++◌, length, take, Some, None, ap, ◌∙◌, suc}
use Rattle.std.specs.Prelude.{slice_get, get_or}
use Rattle.std.proofs.lemmas.Option.{slice_get_within, get_or_from_slice_get, slice_get-get_or}
use Rattle.std.proofs.lemmas.Bool.{cases_lt}
use Rattle.std.proofs.Math.Seq.{take-suc, take-length}

module _ {X : Type 0} (xs : List X) (n : ℕ) where
  -- one item more
  pub take_next : (x : X) → slice_get xs n ≡ Some x → take (n + 1) xs ≡ take n xs ++ x ∷ []
  take_next x is =
      let within : n < length xs = slice_get_within xs n x is in
      let one_more : n + 1 ≡ suc n = omega arith in
      let more : take (suc n) xs ≡ take n xs ++ get_or xs n x ∷ [] = take-suc xs n x within in
      ap (λ k. take k xs) one_more ∙ more ∙ ap (λ y. take n xs ++ y ∷ []) (get_or_from_slice_get xs n x x is)

  pub place_next : (x : X) → slice_get xs n ≡ Some x → n + 1 ≤ length xs
  place_next x is = let within : n < length xs = slice_get_within xs n x is in omega (arith, within)

  none_some : (x : X) → slice_get xs n ≡ Some x → slice_get xs n ≡ None → ⊥
  none_some x some none = cc

same : (n m : ℕ) → n ≤ m → m ≤ n → n ≡ m
same n m below above = omega (arith, below, above)

-- there is no further item
pub take_all : {X : Type 0} (xs : List X) (n : ℕ) (d : X) → slice_get xs n ≡ None → n ≤ length xs → take n xs ≡ xs
take_all xs n d none at_most = elim (cases_lt n (length xs)) [
  | inl within ↦ absurd (none_some xs n (get_or xs n d) (slice_get-get_or xs n d within) none)
  | inr past ↦ ap (λ k. take k xs) (same n (length xs) at_most past) ∙ take-length xs
]
