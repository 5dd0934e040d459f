-- The variables of a term are on the side that it stands on.
use Rattle.std.proofs.Common.{◌≡◌, inl, inr, ⊎_elim, ℕ, ◌+◌, Bool, true, false, List, [], ◌∷◌, drop, Option, Some, None, refl, sym, ap, ◌∙◌}
use Rattle.std.specs.Prelude.{slice_get}
use Rattle.std.specs.List.{flat_map}
use Rattle.k_terms.specs.Sorts.{sort_k, sort_kitem, sort_bool}
use Rattle.grammar_terms.specs.declared.shape.Shape.{Shape, Leaf as LeafShape, Node' as NodeS', Items' as ItemsS', Row_of-Shape, end_of-Shape, more_of-Shape}
use Rattle.live_config.proofs.Members.{Has, has_either}
use Rattle.rule_terms.specs.declared.defs.Kind.{Kind}
use Rattle.rule_parts.specs.declared.argument_sorts.Productions.{Productions}
use Rattle.rule_parts.specs.declared.leaves.Leaf.{Leaf}
use Rattle.rule_parts.specs.declared.leaves.LeafKind.{LeafKind}
use Rattle.rule_parts.specs.declared.leaves.LeafKind.TheVariants.{Variable, Literal, Other}
use Rattle.rule_parts.specs.declared.parts.Part.{Part}
use Rattle.rule_parts.specs.declared.parts.What.{What}
use Rattle.rule_parts.specs.declared.parts.What.TheVariants.{Item, Tail, Entry, Rest, Made, Inner, Whole}
use Rattle.rule_parts.specs.declared.terms.Occurrence.{Occurrence}
use Rattle.rule_parts.specs.Sides.{is_left, item_sort, whole_sort, what_occurrences, part_occurrences}
use Rattle.rule_parts.specs.Terms.{sorts_of, place_sort, takes_sequence, is_sequence, is_end, occurrence_by, leaf_by, rest_occurrence, occurrences, row_occurrences}
use Rattle.rule_drafts.specs.declared.reading.Condition.{Condition}
use Rattle.rule_drafts.specs.Drafts.{condition_occurrences}

pub kind_left : (at : ℕ) (k : LeafKind) (left : Bool) (sort : ℕ) (whole : Bool) (o : Occurrence) → Has (occurrence_by at k left sort whole) o → o.is_left ≡ left
kind_left at (Variable home None) left sort whole o (inl e) = ap (λ (v : Occurrence). v.is_left) (sym e)
kind_left at (Variable home None) left sort whole o (inr none) = absurd none
kind_left at (Variable home (Some own)) left sort whole o (inl e) = ap (λ (v : Occurrence). v.is_left) (sym e)
kind_left at (Variable home (Some own)) left sort whole o (inr none) = absurd none
kind_left at (Literal value) left sort whole o h = absurd h
kind_left at Other left sort whole o h = absurd h

leaf_left : (found : Option Leaf) (left : Bool) (sort : ℕ) (whole : Bool) (o : Occurrence) → Has (leaf_by found left sort whole) o → o.is_left ≡ left
leaf_left None left sort whole o h = absurd h
leaf_left (Some leaf) left sort whole o h = kind_left leaf.at leaf.kind left sort whole o h

rest_left : (leaves : List Leaf) (left : Bool) (sort : ℕ) (rest : Option ℕ) (o : Occurrence) → Has (rest_occurrence leaves left sort rest) o → o.is_left ≡ left
rest_left leaves left sort None o h = absurd h
rest_left leaves left sort (Some at) o h = leaf_left (slice_get leaves at) left sort true o h

module _ (g : Productions) (leaves : List Leaf) where
  mutual
    unfolding occurrences row_occurrences

    pub term_left : (left : Bool) (sort : ℕ) (whole : Bool) (shape : Shape) (o : Occurrence) → Has (occurrences g leaves left sort whole shape) o → o.is_left ≡ left
    term_left left sort whole (LeafShape at) o h = leaf_left (slice_get leaves at) left sort whole o h
    term_left left sort whole (NodeS' p _ shapes) o h = row_left left false false (sorts_of g p) 0 shapes o h
    term_left left sort whole (ItemsS' p _ shapes rest) o h =
        ⊎_elim (λ (front : Has (row_occurrences g leaves left true (is_sequence p) (sorts_of g p) 0 shapes) o). row_left left true (is_sequence p) (sorts_of g p) 0 shapes o front)
        (λ (last : Has (rest_occurrence leaves left (place_sort true (sorts_of g p) 0) rest) o). rest_left leaves left (place_sort true (sorts_of g p) 0) rest o last)
        (has_either (row_occurrences g leaves left true (is_sequence p) (sorts_of g p) 0 shapes) (rest_occurrence leaves left (place_sort true (sorts_of g p) 0) rest) o h)

    row_left : {n : _} (left list sequence : Bool) (sorts : List ℕ) (i : ℕ) (row : Row_of-Shape n) (o : Occurrence) → Has (row_occurrences g leaves left list sequence sorts i row) o → o.is_left ≡ left
    row_left left list sequence sorts i end_of-Shape o h = absurd h
    row_left left list sequence sorts i (more_of-Shape shape shapes) o h =
        let one = occurrences g leaves left (place_sort list sorts i) (takes_sequence sequence (place_sort list sorts i) (is_end shapes)) shape in
        let more = row_occurrences g leaves left list sequence sorts (i + 1) shapes in
        ⊎_elim (λ (here : Has one o). term_left left (place_sort list sorts i) (takes_sequence sequence (place_sort list sorts i) (is_end shapes)) shape o here)
        (λ (later : Has more o). row_left left list sequence sorts (i + 1) shapes o later) (has_either one more o h)

  what_left : (k : Kind) (left : Bool) (what : What Shape) (o : Occurrence) → Has (what_occurrences g leaves k left what) o → o.is_left ≡ left
  what_left k left (Item shape) o h = term_left left (item_sort k) _ shape o h
  what_left k left (Tail at) o h = leaf_left (slice_get leaves at) left sort_k true o h
  what_left k left (Entry key value) o h =
      ⊎_elim (λ (one : Has (occurrences g leaves left sort_kitem false key) o). term_left left sort_kitem false key o one)
      (λ (other : Has (occurrences g leaves left sort_kitem false value) o). term_left left sort_kitem false value o other)
      (has_either (occurrences g leaves left sort_kitem false key) (occurrences g leaves left sort_kitem false value) o h)
  what_left k left (Rest at) o h = leaf_left (slice_get leaves at) left (whole_sort k) true o h
  what_left k left (Made shape) o h = term_left left (whole_sort k) true shape o h
  what_left k left (Inner at) o h = absurd h
  what_left k left Whole o h = absurd h

  -- a variable of parts is one of a part, on its side
  pub record IsOfPart (k : Kind) (parts : List (Part Shape)) (o : Occurrence) : Type 0 where
    pub part : Part Shape
    pub has : Has parts part
    pub there : Has (what_occurrences g leaves k (is_left part.side) part.what) o
    pub left : o.is_left ≡ is_left part.side

  pub of_part : (k : Kind) (parts : List (Part Shape)) (o : Occurrence) → Has (flat_map (part_occurrences g leaves k) parts) o → IsOfPart k parts o
  of_part k [] o h = absurd h
  of_part k (part ∷ parts) o h =
      ⊎_elim (λ (here : Has (part_occurrences g leaves k part) o). record { part = part; has = inl refl; there = here; left = what_left k (is_left part.side) part.what o here })
      (λ (later : Has (flat_map (part_occurrences g leaves k) parts) o).
      let it = of_part k parts o later in record { part = it.part; has = inr it.has; there = it.there; left = it.left })
      (has_either (part_occurrences g leaves k part) (flat_map (part_occurrences g leaves k) parts) o h)

-- those of a condition are on the right side
pub condition_right : (g : Productions) (leaves : List Leaf) (condition : Option Condition) (o : Occurrence) → Has (condition_occurrences g leaves condition) o → o.is_left ≡ true → ⊥
condition_right g leaves None o h e = absurd h
condition_right g leaves (Some condition) o h e =
    absurd (let f : false ≡ true = sym (term_left g (drop condition.first leaves) false sort_bool false condition.shape o h) ∙ e in cc)
