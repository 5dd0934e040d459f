-- Searches for the first name that passes a test.
use Rattle.std.proofs.Common.{◌≡◌, ℕ, ◌+◌, ◌<◌, Bool, true, false, cond, List, [], ◌∷◌, ◌++◌, length, get_or, drop, Option, Some, None, refl, sym, ap, ◌∙◌, drop-cons, add-one}
use Rattle.std.specs.List.{flat_map}
use Rattle.sorted_grammar.specs.Naming.{first_that}

module _ (test : List ℕ → Bool) where
  pub first_past : (xs ys : List (List ℕ)) → first_that test xs ≡ None → first_that test (xs ++ ys) ≡ first_that test ys
  first_past [] ys none = refl
  first_past (x ∷ xs) ys none =
      elim (test x) as (λ b. cond b (Some x) (first_that test xs) ≡ None → cond b (Some x) (first_that test (xs ++ ys)) ≡ first_that test ys) [
        | true ↦ λ some. absurd (cc)
        | false ↦ λ more. first_past xs ys more
      ] none

  pub first_front : (xs ys : List (List ℕ)) (name : List ℕ) → first_that test xs ≡ Some name → first_that test (xs ++ ys) ≡ Some name
  first_front [] ys name is = absurd (cc)
  first_front (x ∷ xs) ys name is =
      elim (test x) as (λ b. cond b (Some x) (first_that test xs) ≡ Some name → cond b (Some x) (first_that test (xs ++ ys)) ≡ Some name) [
        | true ↦ λ here. here
        | false ↦ λ more. first_front xs ys name more
      ] is

  module _ {X : Type 0} (names_in : X → List (List ℕ)) (xs : List X) (i : ℕ) (x : X) (whole : Option (List ℕ)) (within : i < length xs) (is : x ≡ get_or xs i x) (rest : whole ≡ first_that test (flat_map names_in (drop i xs))) where
    rest_is : whole ≡ first_that test (names_in x ++ flat_map names_in (drop (i + 1) xs))
    rest_is =
        rest
        ∙ ap (λ ys. first_that test (flat_map names_in ys)) (drop-cons xs i x within)
        ∙ ap (λ n. first_that test (names_in (get_or xs i x) ++ flat_map names_in (drop n xs))) (sym (add-one i))
        ∙ ap (λ y. first_that test (names_in y ++ flat_map names_in (drop (i + 1) xs))) (sym is)

    -- the first one is here
    pub first_here : (name : List ℕ) (found : Option (List ℕ)) → found ≡ first_that test (names_in x) → found ≡ Some name → Some name ≡ whole
    first_here name found searched some = sym (rest_is ∙ first_front (names_in x) (flat_map names_in (drop (i + 1) xs)) name (sym searched ∙ some))

    -- there is none here
    pub first_later : (found : Option (List ℕ)) → found ≡ first_that test (names_in x) → found ≡ None → whole ≡ first_that test (flat_map names_in (drop (i + 1) xs))
    first_later found searched none = rest_is ∙ first_past (names_in x) (flat_map names_in (drop (i + 1) xs)) (sym searched ∙ none)
