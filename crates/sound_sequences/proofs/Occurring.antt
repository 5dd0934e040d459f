-- What holds of each leaf that is a variable holds of the variables that occur in terms and in the parts of a content.
use Rattle.std.proofs.Common.{ℕ, ◌+◌, Bool, true, false, ◌==◌, List, [], ◌∷◌, Option, Some, None}
use Rattle.std.specs.List.{AllByRecursion, flat_map}
use Rattle.k_terms.specs.Sorts.{sort_k, sort_kitem}
use Rattle.grammar_terms.specs.declared.shape.Shape.{Shape, Leaf as LeafShape, Node' as NodeS', Items' as ItemsS', Row_of-Shape, end_of-Shape, more_of-Shape}
use Rattle.rule_terms.specs.declared.defs.Kind.{Kind}
use Rattle.rule_parts.specs.declared.argument_sorts.Productions.{Productions}
use Rattle.rule_parts.specs.declared.leaves.Leaf.{Leaf}
use Rattle.rule_parts.specs.declared.parts.Part.{Part}
use Rattle.rule_parts.specs.declared.parts.What.{What}
use Rattle.rule_parts.specs.declared.parts.What.TheVariants.{Item, Tail, Entry, Rest, Made, Inner, Whole}
use Rattle.rule_parts.specs.declared.terms.Occurrence.{Occurrence}
use Rattle.rule_parts.specs.Sides.{is_left, item_sort, whole_sort, what_occurrences, part_occurrences}
use Rattle.rule_parts.specs.Terms.{sorts_of, place_sort, takes_sequence, is_sequence, is_end, leaf_occurrence, rest_occurrence, occurrences, row_occurrences}
use Rattle.sound_sequences.proofs.Whats.{all_joined}

module _ (P : Occurrence → Type 0) (g : Productions) (leaves : List Leaf)
    (each : (left : Bool) (sort : ℕ) (whole : Bool) (at : ℕ) → AllByRecursion P (leaf_occurrence leaves left sort whole at)) where
  rest_each : (left : Bool) (sort : ℕ) (rest : Option ℕ) → AllByRecursion P (rest_occurrence leaves left sort rest)
  rest_each left sort None = tt
  rest_each left sort (Some at) = each left sort true at

  mutual
    unfolding occurrences row_occurrences

    pub term_each : (left : Bool) (sort : ℕ) (whole : Bool) (shape : Shape) → AllByRecursion P (occurrences g leaves left sort whole shape)
    term_each left sort whole (LeafShape at) = each left sort whole at
    term_each left sort whole (NodeS' p _ shapes) = row_each left false false (sorts_of g p) 0 shapes
    term_each left sort whole (ItemsS' p _ shapes rest) =
        all_joined P _ _ (row_each left true (is_sequence p) (sorts_of g p) 0 shapes) (rest_each left (place_sort true (sorts_of g p) 0) rest)

    row_each : {n : _} (left list sequence : Bool) (sorts : List ℕ) (i : ℕ) (row : Row_of-Shape n)
        → AllByRecursion P (row_occurrences g leaves left list sequence sorts i row)
    row_each left list sequence sorts i end_of-Shape = tt
    row_each left list sequence sorts i (more_of-Shape shape shapes) =
        all_joined P _ _ (term_each left (place_sort list sorts i) (takes_sequence sequence (place_sort list sorts i) (is_end shapes)) shape)
        (row_each left list sequence sorts (i + 1) shapes)

  what_each : (k : Kind) (left : Bool) (what : What Shape) → AllByRecursion P (what_occurrences g leaves k left what)
  what_each k left (Item shape) = term_each left (item_sort k) (item_sort k == sort_k) shape
  what_each k left (Tail at) = each left sort_k true at
  what_each k left (Entry key value) = all_joined P _ _ (term_each left sort_kitem false key) (term_each left sort_kitem false value)
  what_each k left (Rest at) = each left (whole_sort k) true at
  what_each k left (Made shape) = term_each left (whole_sort k) true shape
  what_each k left (Inner at) = tt
  what_each k left Whole = tt

  pub parts_each : (k : Kind) (parts : List (Part Shape)) → AllByRecursion P (flat_map (part_occurrences g leaves k) parts)
  parts_each k [] = tt
  parts_each k (part ∷ parts) = all_joined P _ _ (what_each k (is_left part.side) part.what) (parts_each k parts)
