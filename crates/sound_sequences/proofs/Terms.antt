-- The pattern of a term whose variables are settled: its sequences are whole, and it is an item where no sequence may stand.
use Rattle.std.proofs.Common.{◌≡◌, ℕ, ◌+◌, ◌-◌, Bool, true, false, cond, not, ◌==◌, ◌&&◌, ◌||◌, List, [], ◌∷◌, ◌++◌, Option, Some, None, refl, ap, subst, ◌∙◌}
use Rattle.std.specs.Prelude.{slice_get, unwrap_or}
use Rattle.std.specs.List.{list_all, AllByRecursion}
use Rattle.k_terms.specs.Sorts.{sort_k}
use Rattle.k_terms.specs.declared.op.Op.{Op}
use Rattle.grammar_terms.specs.declared.shape.Shape.{Shape, Leaf as LeafShape, Node' as NodeS', Items' as ItemsS', Row_of-Shape, end_of-Shape, more_of-Shape}
use Rattle.rule_terms.specs.declared.pattern.Pattern.{Pattern, Var, Items, Seq}
use Rattle.rule_terms.specs.Sound.{is_item, has_whole_sequences}
use Rattle.rule_parts.specs.declared.argument_sorts.Productions.{Productions}
use Rattle.rule_parts.specs.declared.leaves.Leaf.{Leaf}
use Rattle.rule_parts.specs.declared.leaves.LeafKind.{LeafKind}
use Rattle.rule_parts.specs.declared.leaves.LeafKind.TheVariants.{Variable, Literal, Other}
use Rattle.rule_parts.specs.declared.terms.Occurrence.{Occurrence}
use Rattle.rule_parts.specs.Terms.{sorts_of, place_sort, takes_sequence, is_sequence, is_end, occurrence_by, leaf_by, rest_occurrence, occurrences, row_occurrences, number_of, sort_of_number, operator_of, built_by, built, pattern_by, pattern_at, leaf_pattern, rest_number, last_rest, front_parts, sequence_of, is_whole, as_sequence, at_place, items_of, pattern_of, row_patterns}
use Rattle.sound_sequences.proofs.Wholes.{whole-Node, whole-Items, whole-Seq, whole-Apply}
use Rattle.sound_sequences.proofs.Fronts.{both_pass, is_ended, items_but_last, last_told, front_whole, front_are_items}
use Rattle.sound_sequences.proofs.Told.{IsSettled, AreSettled, sorts_with, IsTold, IsSound, variable_told, variable_item, nothing_sound, one_sound}

-- ---- lists

pub left_of_all : {X : Type 0} (P : X → Type 0) (xs ys : List X) → AllByRecursion P (xs ++ ys) → AllByRecursion P xs
left_of_all P [] ys all = tt
left_of_all P (x ∷ xs) ys all = (all.0, left_of_all P xs ys all.1)

pub right_of_all : {X : Type 0} (P : X → Type 0) (xs ys : List X) → AllByRecursion P (xs ++ ys) → AllByRecursion P ys
right_of_all P [] ys all = all
right_of_all P (x ∷ xs) ys all = right_of_all P xs ys all.1

-- no argument of an operator is asked for at a place of sort K
abbrev pub OperatorsTakeItems : Productions → Type 0
OperatorsTakeItems g = (p : ℕ) (op : Op) → operator_of g.declared p ≡ Some op → (i : ℕ) → (place_sort false (sorts_of g p) i == sort_k) ≡ false

module _ (vars : List Occurrence) (more : List ℕ) where
  abbrev sorts : List ℕ
  sorts = sorts_with vars more

  -- ---- leaves

  not_whole : (b whole : Bool) → (b && not whole) ≡ false → whole ≡ false → b ≡ false
  not_whole b true e w = absurd (let f : true ≡ false = w in cc)
  not_whole true false e w = e
  not_whole false false e w = refl

  variable_sound : (home sort : ℕ) (whole : Bool) → sort_of_number vars (number_of vars home) ≡ Some sort → (sort == sort_k && not whole) ≡ false
      → IsSound vars more whole (Var (number_of vars home))
  unfolding has_whole_sequences
  variable_sound home sort whole known placed = record {
    told = variable_told vars more (number_of vars home) sort known;
    rest = tt;
    wholes = refl;
    item = λ w. variable_item vars more (number_of vars home) sort known (not_whole (sort == sort_k) whole placed w);
  }

  kind_sound : (at : ℕ) (k : LeafKind) (left : Bool) (sort : ℕ) (whole : Bool) → AreSettled vars (occurrence_by at k left sort whole)
      → IsSound vars more whole (pattern_by vars k)
  unfolding has_whole_sequences
  kind_sound at (Variable home None) left sort whole all = variable_sound home sort whole all.0.known all.0.placed
  kind_sound at (Variable home (Some own)) left sort whole all = variable_sound home own whole all.0.known all.0.placed
  kind_sound at (Literal value) left sort whole all = record { told = refl; rest = tt; wholes = refl; item = λ w. refl }
  kind_sound at Other left sort whole all = nothing_sound vars more whole

  leaf_sound : (o : Option Leaf) (left : Bool) (sort : ℕ) (whole : Bool) → AreSettled vars (leaf_by o left sort whole) → IsSound vars more whole (pattern_at vars o)
  leaf_sound None left sort whole all = nothing_sound vars more whole
  leaf_sound (Some leaf) left sort whole all = kind_sound leaf.at leaf.kind left sort whole all

  -- ---- a term at a place

  by_whole : (b whole : Bool) (part : Pattern) → is_whole vars part ≡ b → IsSound vars more whole part → IsSound vars more whole (cond b part (Seq (part ∷ []) None))
  by_whole true whole part e sound = sound
  by_whole false whole part e sound = one_sound vars more whole part sound.told e sound.wholes

  by_sort : (b whole : Bool) (part : Pattern) → IsSound vars more whole part → IsSound vars more whole (cond b (as_sequence vars part) part)
  by_sort true whole part sound = by_whole (is_whole vars part) whole part refl sound
  by_sort false whole part sound = sound

  placed_sound : (whole : Bool) (sort : ℕ) (part : Pattern) → IsSound vars more whole part → IsSound vars more whole (at_place vars sort part)
  placed_sound whole sort part sound = by_sort (sort == sort_k) whole part sound

  -- ---- parts one after another

  -- each of them is sound, where a sequence may stand at a place of sort K, and as the last part of a sequence
  abbrev AreSound : Bool → Bool → List ℕ → ℕ → List Pattern → Type 0
  AreSound list sequence places i [] = Unit {0}
  AreSound list sequence places i (part ∷ parts) =
      IsSound vars more (takes_sequence sequence (place_sort list places i) (is_ended parts)) part × AreSound list sequence places (i + 1) parts

  all_whole : (list sequence : Bool) (places : List ℕ) (i : ℕ) (parts : List Pattern) → AreSound list sequence places i parts
      → list_all (has_whole_sequences sorts) parts ≡ true
  all_whole list sequence places i [] all = refl
  all_whole list sequence places i (part ∷ parts) all =
      both_pass (has_whole_sequences sorts part) (list_all (has_whole_sequences sorts) parts) all.0.wholes (all_whole list sequence places (i + 1) parts all.1)

  all_told : (list sequence : Bool) (places : List ℕ) (i : ℕ) (parts : List Pattern) → AreSound list sequence places i parts
      → AllByRecursion (IsTold vars more) parts
  all_told list sequence places i [] all = tt
  all_told list sequence places i (part ∷ parts) all = (all.0.told, all_told list sequence places (i + 1) parts all.1)

  -- the arguments of an operator are items
  no_sequence : (b last : Bool) → b ≡ false → (b || (false && last)) ≡ false
  no_sequence b last e = ap (λ c. c || false) e

  all_items : (places : List ℕ) (i : ℕ) (parts : List Pattern) → ((j : ℕ) → (place_sort false places j == sort_k) ≡ false) → AreSound false false places i parts
      → list_all (is_item sorts) parts ≡ true
  all_items places i [] none all = refl
  all_items places i (part ∷ parts) none all =
      both_pass (is_item sorts part) (list_all (is_item sorts) parts)
      (all.0.item (no_sequence (place_sort false places i == sort_k) (is_ended parts) (none i))) (all_items places (i + 1) parts none all.1)

  -- all parts of a sequence but the last are items
  front_items : (i : ℕ) (parts : List Pattern) → AreSound true true [] i parts → items_but_last sorts parts ≡ true
  front_items i [] all = refl
  front_items i (part ∷ []) all = refl
  front_items i (part ∷ other ∷ parts) all =
      both_pass (is_item sorts part) (items_but_last sorts (other ∷ parts)) (all.0.item refl) (front_items (i + 1) (other ∷ parts) all.1)

  -- ---- a term of others

  built_sound : (o : Option Op) (p : ℕ) (places : List ℕ) (parts : List Pattern) (whole : Bool)
      → ((op : Op) → o ≡ Some op → (j : ℕ) → (place_sort false places j == sort_k) ≡ false) → AreSound false false places 0 parts
      → IsSound vars more whole (built_by o p parts)
  built_sound None p places parts whole takes all = record {
    told = refl;
    rest = tt;
    wholes = whole-Node sorts p parts ∙ all_whole false false places 0 parts all;
    item = λ w. refl;
  }
  built_sound (Some op) p places parts whole takes all = record {
    told = refl;
    rest = tt;
    wholes = whole-Apply sorts op parts
        ∙ both_pass (list_all (has_whole_sequences sorts) parts) (list_all (is_item sorts) parts) (all_whole false false places 0 parts all) (all_items places 0 parts (takes op refl) all);
    item = λ w. refl;
  }

  sequence_sound : (parts : List Pattern) (whole : Bool) → AllByRecursion (IsTold vars more) parts → list_all (has_whole_sequences sorts) parts ≡ true
      → items_but_last sorts parts ≡ true → IsSound vars more whole (sequence_of vars parts)
  sequence_sound parts whole told wholes items = record {
    told = refl;
    rest = last_told vars more parts told;
    wholes = whole-Seq sorts (front_parts vars parts) (last_rest vars parts)
        ∙ both_pass (list_all (has_whole_sequences sorts) (front_parts vars parts)) (list_all (is_item sorts) (front_parts vars parts))
        (front_whole vars more parts wholes) (front_are_items vars more parts told items);
    item = λ w. refl;
  }

  items_sound : (b : Bool) (p : ℕ) (places : List ℕ) (parts : List Pattern) (rest : Option ℕ) (whole : Bool) → (b ≡ true → places ≡ [])
      → AreSound true b places 0 parts
      → IsSound vars more whole (cond b (sequence_of vars parts) (Items p parts rest))
  items_sound true p places parts rest whole none all =
      sequence_sound parts whole (all_told true true places 0 parts all) (all_whole true true places 0 parts all)
      (front_items 0 parts (subst (λ (ss : List ℕ). AreSound true true ss 0 parts) (none refl) all))
  items_sound false p places parts rest whole none all = record {
    told = refl;
    rest = tt;
    wholes = whole-Items sorts p parts rest ∙ all_whole true false places 0 parts all;
    item = λ w. refl;
  }

  -- ---- terms

  module _ (g : Productions) (leaves : List Leaf) (takes : OperatorsTakeItems g) where
    no_sorts : (p : ℕ) → is_sequence p ≡ true → sorts_of g p ≡ []
    no_sorts p e = ap (λ b. cond b [] (unwrap_or (slice_get g.arguments (p - 1)) [])) e

    ended_alike : {n : _} (i : ℕ) (list : Bool) (places : List ℕ) (row : Row_of-Shape n) → is_end row ≡ is_ended (row_patterns g leaves vars list places i row)
    unfolding is_end row_patterns
    ended_alike i list places end_of-Shape = refl
    ended_alike i list places (more_of-Shape shape shapes) = refl

    mutual
      unfolding occurrences row_occurrences pattern_of row_patterns

      pub term_sound : (left : Bool) (sort : ℕ) (whole : Bool) (shape : Shape) → AreSettled vars (occurrences g leaves left sort whole shape)
          → IsSound vars more whole (pattern_of g leaves vars sort shape)
      term_sound left sort whole (LeafShape at) all =
          placed_sound whole sort (leaf_pattern vars leaves at) (leaf_sound (slice_get leaves at) left sort whole all)
      term_sound left sort whole (NodeS' p _ shapes) all =
          placed_sound whole sort (built g p (row_patterns g leaves vars false (sorts_of g p) 0 shapes))
          (built_sound (operator_of g.declared p) p (sorts_of g p) (row_patterns g leaves vars false (sorts_of g p) 0 shapes) whole (takes p)
          (row_sound left false false (sorts_of g p) 0 shapes all))
      term_sound left sort whole (ItemsS' p _ shapes rest) all =
          placed_sound whole sort (items_of vars p (row_patterns g leaves vars true (sorts_of g p) 0 shapes) (rest_number vars leaves rest))
          (items_sound (is_sequence p) p (sorts_of g p) (row_patterns g leaves vars true (sorts_of g p) 0 shapes) (rest_number vars leaves rest) whole (no_sorts p)
          (row_sound left true (is_sequence p) (sorts_of g p) 0 shapes
          (left_of_all (IsSettled vars) (row_occurrences g leaves left true (is_sequence p) (sorts_of g p) 0 shapes)
          (rest_occurrence leaves left (place_sort true (sorts_of g p) 0) rest) all)))

      row_sound : {n : _} (left list sequence : Bool) (places : List ℕ) (i : ℕ) (row : Row_of-Shape n)
          → AreSettled vars (row_occurrences g leaves left list sequence places i row)
          → AreSound list sequence places i (row_patterns g leaves vars list places i row)
      row_sound left list sequence places i end_of-Shape all = tt
      row_sound left list sequence places i (more_of-Shape shape shapes) all =
          let sort = place_sort list places i in
          let here = occurrences g leaves left sort (takes_sequence sequence sort (is_end shapes)) shape in
          let later = row_occurrences g leaves left list sequence places (i + 1) shapes in (
            subst (λ (b : Bool). IsSound vars more (takes_sequence sequence sort b) (pattern_of g leaves vars sort shape)) (ended_alike (i + 1) list places shapes)
                (term_sound left sort (takes_sequence sequence sort (is_end shapes)) shape (left_of_all (IsSettled vars) here later all)),
            row_sound left list sequence places (i + 1) shapes (right_of_all (IsSettled vars) here later all),
          )
