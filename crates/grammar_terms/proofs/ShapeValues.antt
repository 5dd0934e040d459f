-- The values of shapes, one layer at a time.
use Rattle.std.proofs.Common.{ℕ, ◌≡◌, ◌⊎◌, inl, inr, ◌==◌, Bool, true, false, cond, List, [], ◌∷◌, ◌++◌, length, Option, refl, sym, ap, ◌∙◌}
use denote.Hole.Carrier.{out}
use Rattle.k_terms.specs.Sorts.{sort_kitem}
use Rattle.k_terms.specs.declared.value.Value.{Value, Node as NodeV, Items as ItemsV, Seq as SeqV}
use Rattle.grammar_terms.specs.declared.production.Production.{Production}
use Rattle.grammar_terms.specs.declared.word.Word.{Word}
use Rattle.grammar_terms.specs.declared.shape.Shape.{Shape, Shape-F, Leaf, Node, Items, Node', Items', Row_of-Shape, end_of-Shape, more_of-Shape, out-Shape, items-the_row-Shape, items_shown-the_row-Shape-0}
use Rattle.grammar_terms.specs.declared.shape.Shape.TheVariants.{outs-Node, outs-Items}
use Rattle.grammar_terms.specs.declared.shape.Shape.TheOpen.{Leaf as Leaf-F, Node as Node-F, Items as Items-F}
use Rattle.grammar_terms.specs.Values.{value_of, values_of, elements_of, values_by, elements_by, list_value, at_sort, literal_at, sorts_of, first_or_item}

module _ (prods : List Production) (words : List Word) where
  level_value : ℕ → Shape-F Shape → Value
  level_value sort (Leaf-F at) = at_sort sort (literal_at words at)
  level_value sort (Node-F p shapes) = at_sort sort (NodeV p (values_by prods words (sorts_of prods p) shapes))
  level_value sort (Items-F p shapes rest) = list_value sort p (elements_by prods words (first_or_item (sorts_of prods p)) shapes)

  values_of_is : {n : _} (sorts : List ℕ) (row : Row_of-Shape n) → values_of prods words sorts row ≡ values_by prods words sorts (items-the_row-Shape n row)
  unfolding values_of values_by
  values_of_is sorts end_of-Shape = refl
  values_of_is [] (more_of-Shape shape shapes) = ap (λ vs. value_of prods words sort_kitem shape ∷ vs) (values_of_is [] shapes)
  values_of_is (sort ∷ sorts) (more_of-Shape shape shapes) = ap (λ vs. value_of prods words sort shape ∷ vs) (values_of_is sorts shapes)

  elements_of_is : {n : _} (sort : ℕ) (row : Row_of-Shape n) → elements_of prods words sort row ≡ elements_by prods words sort (items-the_row-Shape n row)
  unfolding elements_of
  elements_of_is sort end_of-Shape = refl
  elements_of_is sort (more_of-Shape shape shapes) = ap (λ vs. value_of prods words sort shape ∷ vs) (elements_of_is sort shapes)

  value_levels : (sort : ℕ) (shape : Shape) → value_of prods words sort shape ≡ level_value sort (out-Shape shape)
  unfolding value_of level_value out-Shape out
  value_levels sort (Leaf at) = refl
  value_levels sort (Node' p s shapes) =
      ap (λ vs. at_sort sort (NodeV p vs)) (values_of_is (sorts_of prods p) shapes ∙ ap (values_by prods words (sorts_of prods p)) (sym (items_shown-the_row-Shape-0 s shapes)))
  value_levels sort (Items' p s shapes rest) =
      ap (list_value sort p) (elements_of_is (first_or_item (sorts_of prods p)) shapes ∙ ap (elements_by prods words (first_or_item (sorts_of prods p))) (sym (items_shown-the_row-Shape-0 s shapes)))

  pub value-Node : (sort p : ℕ) (shapes : List Shape) → value_of prods words sort (Node p shapes) ≡ at_sort sort (NodeV p (values_by prods words (sorts_of prods p) shapes))
  unfolding level_value
  value-Node sort p shapes = value_levels sort _ ∙ ap (level_value sort) (outs-Node p shapes)

  pub value-Items : (sort p : ℕ) (shapes : List Shape) (rest : Option ℕ)
      → value_of prods words sort (Items p shapes rest) ≡ list_value sort p (elements_by prods words (first_or_item (sorts_of prods p)) shapes)
  unfolding level_value
  value-Items sort p shapes rest = value_levels sort _ ∙ ap (level_value sort) (outs-Items p shapes rest)

  list_cases : (sort : ℕ) (is_sequence : Bool) (whole list : Value) → (cond is_sequence whole (at_sort sort list) ≡ at_sort sort (cond is_sequence whole (at_sort sort_kitem list)))
      ⊎ (cond is_sequence whole (at_sort sort list) ≡ cond is_sequence whole (at_sort sort_kitem list))
  list_cases sort true whole list = inr refl
  list_cases sort false whole list = inl refl

  -- the value at a place of a sort is made of that at one of items, or is the same sequence there
  pub value_at_sort : (sort : ℕ) (shape : Shape) → (value_of prods words sort shape ≡ at_sort sort (value_of prods words sort_kitem shape)) ⊎ (value_of prods words sort shape ≡ value_of prods words sort_kitem shape)
  unfolding value_of
  value_at_sort sort (Leaf at) = inl refl
  value_at_sort sort (Node' p s shapes) = inl refl
  value_at_sort sort (Items' p s shapes rest) =
      list_cases sort (p == 0) (SeqV (elements_of prods words (first_or_item (sorts_of prods p)) shapes)) (ItemsV p (elements_of prods words (first_or_item (sorts_of prods p)) shapes))

  -- one shape more, at a place of one sort more
  pub values_by_more : (sorts : List ℕ) (shapes : List Shape) (sort : ℕ) (shape : Shape) → length shapes ≡ length sorts
      → values_by prods words (sorts ++ sort ∷ []) (shapes ++ shape ∷ []) ≡ values_by prods words sorts shapes ++ value_of prods words sort shape ∷ []
  unfolding values_by
  values_by_more [] [] sort shape same = refl
  values_by_more [] (other ∷ shapes) sort shape same = cc
  values_by_more (first ∷ sorts) [] sort shape same = cc
  values_by_more (first ∷ sorts) (other ∷ shapes) sort shape same =
      let less : length shapes ≡ length sorts = cc in ap (λ vs. value_of prods words first other ∷ vs) (values_by_more sorts shapes sort shape less)
