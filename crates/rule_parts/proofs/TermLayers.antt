-- The variables and the pattern of a term, one layer at a time.
use Rattle.std.proofs.Common.{◌≡◌, ℕ, zero, suc, ◌+◌, ◌<◌, ◌≤◌, Bool, true, false, ◌==◌, List, [], ◌∷◌, ◌++◌, length, get_or, drop, refl, sym, ap, ◌∙◌, arith, append_assoc}
use Rattle.std.proofs.lemmas.Bool.Decides.{nat_tests}
use Rattle.std.specs.Prelude.{Option}
use denote.Hole.Carrier.{out}
use Rattle.grammar_terms.specs.declared.shape.Shape.{Shape, Shape-F, Leaf, Node, Items, Node', Items', Row_of-Shape, end_of-Shape, more_of-Shape, out-Shape, items-the_row-Shape, items_shown-the_row-Shape-0}
use Rattle.grammar_terms.specs.declared.shape.Shape.TheVariants.{outs-Node, outs-Items}
use Rattle.grammar_terms.specs.declared.shape.Shape.TheOpen.{Leaf as Leaf-F, Node as Node-F, Items as Items-F}
use Rattle.rule_terms.specs.declared.pattern.Pattern.{Pattern}
use Rattle.rule_parts.specs.declared.argument_sorts.Productions.{Productions}
use Rattle.rule_parts.specs.declared.leaves.Leaf.{Leaf as LeafToken}
use Rattle.rule_parts.specs.declared.terms.Occurrence.{Occurrence}
use Rattle.rule_parts.specs.Terms.{sorts_of, place_sort, takes_sequence, is_sequence, is_end, is_last, leaf_occurrence, rest_occurrence, occurrences, row_occurrences, all_occurrences, at_place, leaf_pattern, built, items_of, rest_number, pattern_of, row_patterns, all_patterns}
use Rattle.rule_parts.proofs.Lists.{drop_at}

end_is : {n : _} (row : Row_of-Shape n) → is_end row ≡ is_last (items-the_row-Shape n row)
unfolding is_end
end_is end_of-Shape = refl
end_is (more_of-Shape shape shapes) = refl

last_is : (shapes : List Shape) (n : ℕ) → n ≤ length shapes → is_last (drop n shapes) ≡ (n == length shapes)
last_is [] zero within = refl
last_is [] (suc n) within = absurd (omega (arith, within))
last_is (shape ∷ shapes) zero within = search (arith, nat_tests)
last_is (shape ∷ shapes) (suc n) within = last_is shapes n (omega (arith, within)) ∙ search (arith, nat_tests)

module _ (g : Productions) (leaves : List LeafToken) where
  level_occurrences : Bool → ℕ → Bool → Shape-F Shape → List Occurrence
  level_occurrences is_left sort whole (Leaf-F at) = leaf_occurrence leaves is_left sort whole at
  level_occurrences is_left sort whole (Node-F p shapes) = all_occurrences g leaves is_left false false (sorts_of g p) 0 shapes
  level_occurrences is_left sort whole (Items-F p shapes rest) =
      all_occurrences g leaves is_left true (is_sequence p) (sorts_of g p) 0 shapes ++ rest_occurrence leaves is_left (place_sort true (sorts_of g p) 0) rest

  row_occurrences_is : {n : _} (is_left list sequence : Bool) (sorts : List ℕ) (i : ℕ) (row : Row_of-Shape n)
      → row_occurrences g leaves is_left list sequence sorts i row ≡ all_occurrences g leaves is_left list sequence sorts i (items-the_row-Shape n row)
  unfolding row_occurrences all_occurrences
  row_occurrences_is is_left list sequence sorts i end_of-Shape = refl
  row_occurrences_is is_left list sequence sorts i (more_of-Shape shape shapes) =
      λ k. occurrences g leaves is_left (place_sort list sorts i) (takes_sequence sequence (place_sort list sorts i) (end_is shapes k)) shape
      ++ row_occurrences_is is_left list sequence sorts (i + 1) shapes k

  occurrence_levels : (is_left : Bool) (sort : ℕ) (whole : Bool) (shape : Shape) → occurrences g leaves is_left sort whole shape ≡ level_occurrences is_left sort whole (out-Shape shape)
  unfolding occurrences level_occurrences out-Shape out
  occurrence_levels is_left sort whole (Leaf at) = refl
  occurrence_levels is_left sort whole (Node' p s shapes) =
      row_occurrences_is is_left false false (sorts_of g p) 0 shapes
      ∙ ap (all_occurrences g leaves is_left false false (sorts_of g p) 0) (sym (items_shown-the_row-Shape-0 s shapes))
  occurrence_levels is_left sort whole (Items' p s shapes rest) =
      ap (λ found. found ++ rest_occurrence leaves is_left (place_sort true (sorts_of g p) 0) rest) (row_occurrences_is is_left true (is_sequence p) (sorts_of g p) 0 shapes
      ∙ ap (all_occurrences g leaves is_left true (is_sequence p) (sorts_of g p) 0) (sym (items_shown-the_row-Shape-0 s shapes)))

  pub occurrences-Leaf : (is_left : Bool) (sort : ℕ) (whole : Bool) (at : ℕ) → occurrences g leaves is_left sort whole (Leaf at) ≡ leaf_occurrence leaves is_left sort whole at
  unfolding occurrences
  occurrences-Leaf is_left sort whole at = refl

  pub occurrences-Node : (is_left : Bool) (sort : ℕ) (whole : Bool) (p : ℕ) (shapes : List Shape)
      → occurrences g leaves is_left sort whole (Node p shapes) ≡ all_occurrences g leaves is_left false false (sorts_of g p) 0 shapes
  unfolding level_occurrences
  occurrences-Node is_left sort whole p shapes = occurrence_levels is_left sort whole _ ∙ ap (level_occurrences is_left sort whole) (outs-Node p shapes)

  pub occurrences-Items : (is_left : Bool) (sort : ℕ) (whole : Bool) (p : ℕ) (shapes : List Shape) (rest : Option ℕ)
      → occurrences g leaves is_left sort whole (Items p shapes rest)
      ≡ all_occurrences g leaves is_left true (is_sequence p) (sorts_of g p) 0 shapes ++ rest_occurrence leaves is_left (place_sort true (sorts_of g p) 0) rest
  unfolding level_occurrences
  occurrences-Items is_left sort whole p shapes rest = occurrence_levels is_left sort whole _ ∙ ap (level_occurrences is_left sort whole) (outs-Items p shapes rest)

  pub no_occurrences : (is_left list sequence : Bool) (sorts : List ℕ) (i : ℕ) → all_occurrences g leaves is_left list sequence sorts i [] ≡ []
  unfolding all_occurrences
  no_occurrences is_left list sequence sorts i = refl

  -- one child more
  pub occurrences_more : (is_left list sequence : Bool) (sorts : List ℕ) (shapes : List Shape) (i : ℕ) (shape : Shape) (sort : ℕ) (last takes : Bool) (found new whole : List Occurrence)
      → i < length shapes → shape ≡ get_or shapes i shape → sort ≡ place_sort list sorts i → last ≡ (i + 1 == length shapes) → takes ≡ takes_sequence sequence sort last
      → new ≡ found ++ occurrences g leaves is_left sort takes shape
      → found ++ all_occurrences g leaves is_left list sequence sorts i (drop i shapes) ≡ whole
      → new ++ all_occurrences g leaves is_left list sequence sorts (i + 1) (drop (i + 1) shapes) ≡ whole
  unfolding all_occurrences
  occurrences_more is_left list sequence sorts shapes i shape sort last takes found new whole within is sorted lasts taken adds kept =
      let rest = all_occurrences g leaves is_left list sequence sorts (i + 1) (drop (i + 1) shapes) in
      let same : takes ≡ takes_sequence sequence (place_sort list sorts i) (is_last (drop (i + 1) shapes)) =
      taken ∙ (λ k. takes_sequence sequence (sorted k) ((lasts ∙ sym (last_is shapes (i + 1) (omega (arith, within)))) k)) in
      ap (λ xs. xs ++ rest) adds
      ∙ append_assoc found (occurrences g leaves is_left sort takes shape) rest
      ∙ (λ k. found ++ (occurrences g leaves is_left (sorted k) (same k) shape ++ rest))
      ∙ ap (λ xs. found ++ all_occurrences g leaves is_left list sequence sorts i xs) (sym (drop_at shapes shape i within is))
      ∙ kept

module _ (g : Productions) (leaves : List LeafToken) (vars : List Occurrence) where
  level_pattern : ℕ → Shape-F Shape → Pattern
  level_pattern sort (Leaf-F at) = at_place vars sort (leaf_pattern vars leaves at)
  level_pattern sort (Node-F p shapes) = at_place vars sort (built g p (all_patterns g leaves vars false (sorts_of g p) 0 shapes))
  level_pattern sort (Items-F p shapes rest) = at_place vars sort (items_of vars p (all_patterns g leaves vars true (sorts_of g p) 0 shapes) (rest_number vars leaves rest))

  row_patterns_is : {n : _} (list : Bool) (sorts : List ℕ) (i : ℕ) (row : Row_of-Shape n)
      → row_patterns g leaves vars list sorts i row ≡ all_patterns g leaves vars list sorts i (items-the_row-Shape n row)
  unfolding row_patterns all_patterns
  row_patterns_is list sorts i end_of-Shape = refl
  row_patterns_is list sorts i (more_of-Shape shape shapes) = ap (λ parts. pattern_of g leaves vars (place_sort list sorts i) shape ∷ parts) (row_patterns_is list sorts (i + 1) shapes)

  pattern_levels : (sort : ℕ) (shape : Shape) → pattern_of g leaves vars sort shape ≡ level_pattern sort (out-Shape shape)
  unfolding pattern_of level_pattern out-Shape out
  pattern_levels sort (Leaf at) = refl
  pattern_levels sort (Node' p s shapes) =
      ap (λ parts. at_place vars sort (built g p parts)) (row_patterns_is false (sorts_of g p) 0 shapes ∙ ap (all_patterns g leaves vars false (sorts_of g p) 0) (sym (items_shown-the_row-Shape-0 s shapes)))
  pattern_levels sort (Items' p s shapes rest) =
      ap (λ parts. at_place vars sort (items_of vars p parts (rest_number vars leaves rest)))
      (row_patterns_is true (sorts_of g p) 0 shapes ∙ ap (all_patterns g leaves vars true (sorts_of g p) 0) (sym (items_shown-the_row-Shape-0 s shapes)))

  pub pattern-Leaf : (sort at : ℕ) → pattern_of g leaves vars sort (Leaf at) ≡ at_place vars sort (leaf_pattern vars leaves at)
  unfolding pattern_of
  pattern-Leaf sort at = refl

  pub pattern-Node : (sort p : ℕ) (shapes : List Shape) → pattern_of g leaves vars sort (Node p shapes) ≡ at_place vars sort (built g p (all_patterns g leaves vars false (sorts_of g p) 0 shapes))
  unfolding level_pattern
  pattern-Node sort p shapes = pattern_levels sort _ ∙ ap (level_pattern sort) (outs-Node p shapes)

  pub pattern-Items : (sort p : ℕ) (shapes : List Shape) (rest : Option ℕ)
      → pattern_of g leaves vars sort (Items p shapes rest) ≡ at_place vars sort (items_of vars p (all_patterns g leaves vars true (sorts_of g p) 0 shapes) (rest_number vars leaves rest))
  unfolding level_pattern
  pattern-Items sort p shapes rest = pattern_levels sort _ ∙ ap (level_pattern sort) (outs-Items p shapes rest)

  pub no_patterns : (list : Bool) (sorts : List ℕ) (i : ℕ) → all_patterns g leaves vars list sorts i [] ≡ []
  unfolding all_patterns
  no_patterns list sorts i = refl

  -- one child more
  pub patterns_more : (list : Bool) (sorts : List ℕ) (shapes : List Shape) (i : ℕ) (shape : Shape) (sort : ℕ) (parts new whole : List Pattern)
      → i < length shapes → shape ≡ get_or shapes i shape → sort ≡ place_sort list sorts i
      → new ≡ parts ++ pattern_of g leaves vars sort shape ∷ []
      → parts ++ all_patterns g leaves vars list sorts i (drop i shapes) ≡ whole
      → new ++ all_patterns g leaves vars list sorts (i + 1) (drop (i + 1) shapes) ≡ whole
  unfolding all_patterns
  patterns_more list sorts shapes i shape sort parts new whole within is sorted adds kept =
      let rest = all_patterns g leaves vars list sorts (i + 1) (drop (i + 1) shapes) in
      ap (λ xs. xs ++ rest) adds
      ∙ append_assoc parts (pattern_of g leaves vars sort shape ∷ []) rest
      ∙ (λ k. parts ++ pattern_of g leaves vars (sorted k) shape ∷ rest)
      ∙ ap (λ xs. parts ++ all_patterns g leaves vars list sorts i xs) (sym (drop_at shapes shape i within is))
      ∙ kept

-- two lists that were added one after the other
pub added_twice : {X : Type 0} (found middle front back : List X) → middle ≡ found ++ front → middle ++ back ≡ found ++ (front ++ back)
added_twice found middle front back is = ap (λ xs. xs ++ back) is ∙ append_assoc found front back
