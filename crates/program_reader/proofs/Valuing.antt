-- The values of arguments, one after the other.
use Rattle.std.proofs.Common.{ℕ, zero, suc, ◌≡◌, ◌+◌, ◌<◌, List, [], ◌∷◌, ◌++◌, length, take, get_or, refl, ap, ◌∙◌, arith, add-one}
use Rattle.k_terms.specs.Sorts.{sort_kitem}
use Rattle.grammar_terms.specs.declared.production.Production.{Production}
use Rattle.grammar_terms.specs.declared.word.Word.{Word}
use Rattle.grammar_terms.specs.declared.shape.Shape.{Shape, Leaf}
use Rattle.grammar_terms.specs.Values.{value_of, values_by, first_or_item, at_sort, literal_at}

module _ (prods : List Production) (words : List Word) where
  values_step : (sorts : List ℕ) (shapes : List Shape) (at : ℕ) (other : Shape) → at < length shapes
      → values_by prods words sorts (take (suc at) shapes) ≡ values_by prods words sorts (take at shapes) ++ value_of prods words (get_or sorts at sort_kitem) (get_or shapes at other) ∷ []
  unfolding values_by
  values_step sorts [] at other within = absurd (omega arith)
  values_step [] (shape ∷ shapes) zero other within = refl
  values_step (sort ∷ sorts) (shape ∷ shapes) zero other within = refl
  values_step [] (shape ∷ shapes) (suc at) other within = ap (λ vs. value_of prods words sort_kitem shape ∷ vs) (values_step [] shapes at other (omega (arith, within)))
  values_step (sort ∷ sorts) (shape ∷ shapes) (suc at) other within = ap (λ vs. value_of prods words sort shape ∷ vs) (values_step sorts shapes at other (omega (arith, within)))

  pub values_more : (sorts : List ℕ) (shapes : List Shape) (at : ℕ) (other : Shape) → at < length shapes
      → values_by prods words sorts (take (at + 1) shapes) ≡ values_by prods words sorts (take at shapes) ++ value_of prods words (get_or sorts at sort_kitem) (get_or shapes at other) ∷ []
  values_more sorts shapes at other within = ap (λ n. values_by prods words sorts (take n shapes)) (add-one at) ∙ values_step sorts shapes at other within

  pub no_values : (sorts : List ℕ) → [] ≡ values_by prods words sorts []
  unfolding values_by
  no_values sorts = refl

pub first_is : (sorts : List ℕ) → get_or sorts 0 sort_kitem ≡ first_or_item sorts
first_is [] = refl
first_is (sort ∷ sorts) = refl

pub value-Leaf : (prods : List Production) (words : List Word) (sort at : ℕ) → value_of prods words sort (Leaf at) ≡ at_sort sort (literal_at words at)
unfolding value_of
value-Leaf prods words sort at = refl
