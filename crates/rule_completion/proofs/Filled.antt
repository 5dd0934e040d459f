-- Declared cells one after the other, with what stands for each that passes a test.
use Rattle.std.proofs.Common.{◌≡◌, ℕ, ◌+◌, Bool, true, false, cond, List, [], ◌∷◌, ◌++◌, refl, sym, ap, ◌∙◌, arith}
use Rattle.std.specs.List.{filter, flat_map, range_with_len}
use Rattle.std.proofs.lemmas.List.{append-nil}
use Rattle.std.proofs.lemmas.List.Elements.{filter-append}
use Rattle.std.proofs.lemmas.Grind.{flat_map-append}
use Rattle.strictness.proofs.Ranges.{range_more}

module _ {X : Type 0} (f : ℕ → List X) (test : ℕ → Bool) where
  joined_one : (x : ℕ) → flat_map f (filter test (x ∷ [])) ≡ cond (test x) (f x) []
  joined_one x = elim (test x) as (λ b. flat_map f (cond b (x ∷ []) []) ≡ cond b (f x) []) [ true ↦ append-nil (f x) | false ↦ refl ]

  joined_more : (n : ℕ) → flat_map f (filter test (range_with_len 0 (n + 1))) ≡ flat_map f (filter test (range_with_len 0 n)) ++ cond (test n) (f n) []
  joined_more n =
      ap (λ xs. flat_map f (filter test xs)) (range_more 0 n n (omega arith))
      ∙ ap (flat_map f) (filter-append test (range_with_len 0 n) (n ∷ []))
      ∙ flat_map-append f (filter test (range_with_len 0 n)) (filter test (n ∷ []))
      ∙ ap (λ ys. flat_map f (filter test (range_with_len 0 n)) ++ ys) (joined_one n)

  pub one_filled : (n : ℕ) (old new : List X) → old ≡ flat_map f (filter test (range_with_len 0 n)) → true ≡ test n → new ≡ old ++ f n
      → new ≡ flat_map f (filter test (range_with_len 0 (n + 1)))
  one_filled n old new is passes made =
      made ∙ ap (λ xs. xs ++ f n) is ∙ ap (λ (b : Bool). flat_map f (filter test (range_with_len 0 n)) ++ cond b (f n) []) passes ∙ sym (joined_more n)

  pub none_filled : (n : ℕ) (old new : List X) → old ≡ flat_map f (filter test (range_with_len 0 n)) → false ≡ test n → new ≡ old
      → new ≡ flat_map f (filter test (range_with_len 0 (n + 1)))
  none_filled n old new is fails same =
      same ∙ is ∙ sym (append-nil (flat_map f (filter test (range_with_len 0 n))))
      ∙ ap (λ (b : Bool). flat_map f (filter test (range_with_len 0 n)) ++ cond b (f n) []) fails ∙ sym (joined_more n)
