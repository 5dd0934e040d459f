-- A variable that occurs in a term stands in its pattern.
use Rattle.std.proofs.Common.{◌≡◌, ◌⊎◌, inl, inr, ⊎_elim, ℕ, ◌+◌, ◌-◌, Bool, true, false, cond, not, ◌==◌, ◌||◌, List, [], ◌∷◌, length, take, Option, Some, None, refl, sym, ap, subst, ◌∙◌, arith}
use Rattle.std.proofs.lemmas.Bool.{eq-eqb, and_parts}
use Rattle.std.specs.Prelude.{slice_get}
use Rattle.std.specs.Option.{option_and_then}
use Rattle.std.specs.List.{list_any}
use Rattle.k_terms.specs.Sorts.{sort_k}
use Rattle.k_terms.specs.declared.op.Op.{Op}
use Rattle.grammar_terms.specs.declared.shape.Shape.{Shape, Leaf as LeafShape, Node' as NodeS', Items' as ItemsS', Row_of-Shape, end_of-Shape, more_of-Shape}
use Rattle.live_config.proofs.Members.{Has, has_either}
use Rattle.rule_terms.specs.declared.pattern.Pattern.{Pattern, Var, Lit, Items, Seq, Node' as NodeP', Items' as ItemsP', Seq' as SeqP', Freezer' as FreezerP', Apply' as ApplyP'}
use Rattle.rule_terms.specs.Patterns.{mentions, is_rest}
use Rattle.rule_parts.specs.declared.argument_sorts.Productions.{Productions}
use Rattle.rule_parts.specs.declared.leaves.Leaf.{Leaf}
use Rattle.rule_parts.specs.declared.leaves.LeafKind.{LeafKind}
use Rattle.rule_parts.specs.declared.leaves.LeafKind.TheVariants.{Variable, Literal, Other}
use Rattle.rule_parts.specs.declared.terms.Occurrence.{Occurrence}
use Rattle.rule_parts.specs.Terms.{sorts_of, place_sort, takes_sequence, is_sequence, is_end, occurrence_by, leaf_by, rest_occurrence, occurrences, row_occurrences, number_of, operator_of, built_by, built, pattern_by, pattern_at, leaf_pattern, leaf_number, rest_number, is_of_sort_k, tail_of, last_rest, before_rest, front_parts, sequence_of, is_whole, as_sequence, at_place, items_of, pattern_of, row_patterns}
use Rattle.sound_drafts.proofs.Mentioned.{mentions-Node, mentions-Apply, mentions-Items, mentions-Seq}
use Rattle.sound_drafts.proofs.ListRests.{is_rest_of_list, rests_in_lists, row_rests_in_lists}

pub or_first : (a b : Bool) → a ≡ true → (a || b) ≡ true
or_first true b e = refl
or_first false b e = absurd (let f : false ≡ true = e in cc)

pub or_last : (a b : Bool) → b ≡ true → (a || b) ≡ true
or_last true b e = refl
or_last false b e = e

-- ---- a front and a last

-- what stands in a list stands before the last, or is the last
before_at : {A : Type 0} (test : A → Bool) (x : A) (xs : List A) (last : A) → slice_get (x ∷ xs) (length xs) ≡ Some last → list_any test (x ∷ xs) ≡ true
    → (list_any test (take (length xs) (x ∷ xs)) ≡ true) ⊎ (test last ≡ true)
before_at test x [] last at e = let same : x ≡ last = cc in inr (ap test (sym same) ∙ only (test x) e)
  where
    only : (b : Bool) → (b || false) ≡ true → b ≡ true
    only true e = refl
    only false e = e
before_at test x (y ∷ xs) last at e =
    elim (test x) as (λ b. test x ≡ b → (b || list_any test (y ∷ xs)) ≡ true → (list_any test (x ∷ take (length xs) (y ∷ xs)) ≡ true) ⊎ (test last ≡ true)) [
      | true ↦ λ here _. inl (or_first (test x) (list_any test (take (length xs) (y ∷ xs))) here)
      | false ↦ λ _ later. elim (before_at test y xs last at later) [ inl front ↦ inl (or_last (test x) (list_any test (take (length xs) (y ∷ xs))) front) | inr behind ↦ inr behind ]
    ] refl e

before_last : {A : Type 0} (test : A → Bool) (xs : List A) (last : A) → slice_get xs (length xs - 1) ≡ Some last → list_any test xs ≡ true
    → (list_any test (take (length xs - 1) xs) ≡ true) ⊎ (test last ≡ true)
before_last test [] last at e = absurd (let f : false ≡ true = e in cc)
before_last test (x ∷ xs) last at e =
    let size : length (x ∷ xs) - 1 ≡ length xs = omega arith in
    subst (λ (n : ℕ). (list_any test (take n (x ∷ xs)) ≡ true) ⊎ (test last ≡ true)) (sym size)
    (before_at test x xs last (subst (λ (n : ℕ). slice_get (x ∷ xs) n ≡ Some last) size at) e)

module _ (vars : List Occurrence) (x : ℕ) where
  -- ---- a term at a place

  in_sequence : (part : Pattern) → mentions x part ≡ true → mentions x (Seq (part ∷ []) None) ≡ true
  in_sequence part e = mentions-Seq x (part ∷ []) None ∙ or_first (mentions x part || false) false (or_first (mentions x part) false e)

  whole_up : (b : Bool) (part : Pattern) → mentions x part ≡ true → mentions x (cond b part (Seq (part ∷ []) None)) ≡ true
  whole_up true part e = e
  whole_up false part e = in_sequence part e

  sort_up : (b : Bool) (part : Pattern) → mentions x part ≡ true → mentions x (cond b (as_sequence vars part) part) ≡ true
  sort_up true part e = whole_up (is_whole vars part) part e
  sort_up false part e = e

  placed_up : (sort : ℕ) (part : Pattern) → mentions x part ≡ true → mentions x (at_place vars sort part) ≡ true
  placed_up sort part e = sort_up (sort == sort_k) part e

  -- ---- sequences

  some_tail : (b : Bool) (z y : ℕ) → cond b (Some z) None ≡ Some y → z ≡ y
  some_tail true z y e = cc
  some_tail false z y e = absurd (let f : None ≡ Some y = e in cc)

  -- the last part of a sequence, where it is a rest
  tail_up : (part : Pattern) (y : ℕ) → tail_of vars part ≡ Some y → mentions x part ≡ true → (x == y) ≡ true
  unfolding mentions
  tail_up (Var z) y is e = ap (λ (n : ℕ). x == n) (sym (some_tail (is_of_sort_k vars z) z y is)) ∙ e
  tail_up (Lit v) y is e = absurd (let f : None ≡ Some y = is in cc)
  tail_up (NodeP' p _ parts) y is e = absurd (let f : None ≡ Some y = is in cc)
  tail_up (ItemsP' p _ parts rest) y is e = absurd (let f : None ≡ Some y = is in cc)
  tail_up (SeqP' _ parts rest) y is e = absurd (let f : None ≡ Some y = is in cc)
  tail_up (FreezerP' p i _ parts) y is e = absurd (let f : None ≡ Some y = is in cc)
  tail_up (ApplyP' op _ parts) y is e = absurd (let f : None ≡ Some y = is in cc)

  with_last : (parts : List Pattern) (last : Option Pattern) (y : ℕ) → slice_get parts (length parts - 1) ≡ last → option_and_then (tail_of vars) last ≡ Some y → list_any (mentions x) parts ≡ true
      → (list_any (mentions x) (take (length parts - 1) parts) || (x == y)) ≡ true
  with_last parts None y at is e = absurd (let f : None ≡ Some y = is in cc)
  with_last parts (Some last) y at is e =
      elim (before_last (mentions x) parts last at e) [
        | inl front ↦ or_first (list_any (mentions x) (take (length parts - 1) parts)) (x == y) front
        | inr behind ↦ or_last (list_any (mentions x) (take (length parts - 1) parts)) (x == y) (tail_up last y is behind)
      ]

  by_last : (parts : List Pattern) (o : Option ℕ) → last_rest vars parts ≡ o → list_any (mentions x) parts ≡ true → (list_any (mentions x) (before_rest o parts) || is_rest x o) ≡ true
  by_last parts None is e = or_first (list_any (mentions x) parts) false e
  by_last parts (Some y) is e = with_last parts (slice_get parts (length parts - 1)) y refl is e

  -- what stands in the parts of a sequence stands in the front or is the rest
  pub split_up : (parts : List Pattern) → list_any (mentions x) parts ≡ true → (list_any (mentions x) (front_parts vars parts) || is_rest x (last_rest vars parts)) ≡ true
  split_up parts e = by_last parts (last_rest vars parts) refl e

  sequence_up : (parts : List Pattern) → list_any (mentions x) parts ≡ true → mentions x (sequence_of vars parts) ≡ true
  sequence_up parts e = mentions-Seq x (front_parts vars parts) (last_rest vars parts) ∙ split_up parts e

  items_up : (b : Bool) (p : ℕ) (parts : List Pattern) (rest : Option ℕ) → list_any (mentions x) parts ≡ true → mentions x (cond b (sequence_of vars parts) (Items p parts rest)) ≡ true
  items_up true p parts rest e = sequence_up parts e
  items_up false p parts rest e = mentions-Items x p parts rest ∙ or_first (list_any (mentions x) parts) (is_rest x rest) e

  list_up : (b : Bool) (p : ℕ) (parts : List Pattern) (rest : Option ℕ) → b ≡ false → is_rest x rest ≡ true → mentions x (cond b (sequence_of vars parts) (Items p parts rest)) ≡ true
  list_up true p parts rest none e = absurd (let f : true ≡ false = none in cc)
  list_up false p parts rest none e = mentions-Items x p parts rest ∙ or_last (list_any (mentions x) parts) (is_rest x rest) e

  built_up : (o : Option Op) (p : ℕ) (parts : List Pattern) → list_any (mentions x) parts ≡ true → mentions x (built_by o p parts) ≡ true
  built_up None p parts e = mentions-Node x p parts ∙ e
  built_up (Some op) p parts e = mentions-Apply x op parts ∙ e

-- ---- leaves

module _ (vars : List Occurrence) where
  -- the variable with this occurrence
  abbrev pub its_number : Occurrence → ℕ
  its_number o = number_of vars o.home

  kind_up : (at : ℕ) (k : LeafKind) (left : Bool) (sort : ℕ) (whole : Bool) (o : Occurrence) → Has (occurrence_by at k left sort whole) o → mentions (its_number o) (pattern_by vars k) ≡ true
  unfolding mentions
  kind_up at (Variable home None) left sort whole o (inl e) = eq-eqb (its_number o) (number_of vars home) (ap its_number (sym e))
  kind_up at (Variable home None) left sort whole o (inr none) = absurd none
  kind_up at (Variable home (Some own)) left sort whole o (inl e) = eq-eqb (its_number o) (number_of vars home) (ap its_number (sym e))
  kind_up at (Variable home (Some own)) left sort whole o (inr none) = absurd none
  kind_up at (Literal value) left sort whole o h = absurd h
  kind_up at Other left sort whole o h = absurd h

  number_up : (at : ℕ) (k : LeafKind) (left : Bool) (sort : ℕ) (whole : Bool) (o : Occurrence) → Has (occurrence_by at k left sort whole) o → is_rest (its_number o) (leaf_number vars k) ≡ true
  number_up at (Variable home None) left sort whole o (inl e) = eq-eqb (its_number o) (number_of vars home) (ap its_number (sym e))
  number_up at (Variable home None) left sort whole o (inr none) = absurd none
  number_up at (Variable home (Some own)) left sort whole o (inl e) = eq-eqb (its_number o) (number_of vars home) (ap its_number (sym e))
  number_up at (Variable home (Some own)) left sort whole o (inr none) = absurd none
  number_up at (Literal value) left sort whole o h = absurd h
  number_up at Other left sort whole o h = absurd h

  leaf_up : (found : Option Leaf) (left : Bool) (sort : ℕ) (whole : Bool) (o : Occurrence) → Has (leaf_by found left sort whole) o → mentions (its_number o) (pattern_at vars found) ≡ true
  leaf_up None left sort whole o h = absurd h
  leaf_up (Some leaf) left sort whole o h = kind_up leaf.at leaf.kind left sort whole o h

  pub variable_up : (found : Option Leaf) (left : Bool) (sort : ℕ) (whole : Bool) (o : Occurrence) → Has (leaf_by found left sort whole) o
      → is_rest (its_number o) (option_and_then (λ (leaf : Leaf). leaf_number vars leaf.kind) found) ≡ true
  variable_up None left sort whole o h = absurd h
  variable_up (Some leaf) left sort whole o h = number_up leaf.at leaf.kind left sort whole o h

  rest_up : (leaves : List Leaf) (left : Bool) (sort : ℕ) (rest : Option ℕ) (o : Occurrence) → Has (rest_occurrence leaves left sort rest) o → is_rest (its_number o) (rest_number vars leaves rest) ≡ true
  rest_up leaves left sort None o h = absurd h
  rest_up leaves left sort (Some at) o h = variable_up (slice_get leaves at) left sort true o h

  -- a sequence has no rest of its own
  of_list : (p : ℕ) (leaves : List Leaf) (left : Bool) (sort : ℕ) (rest : Option ℕ) (o : Occurrence) → is_rest_of_list p rest ≡ true → Has (rest_occurrence leaves left sort rest) o → is_sequence p ≡ false
  of_list p leaves left sort None o is h = absurd h
  of_list p leaves left sort (Some at) o is h = not_yes (is_sequence p) is
    where
      not_yes : (b : Bool) → not b ≡ true → b ≡ false
      not_yes true e = absurd (let f : false ≡ true = e in cc)
      not_yes false e = refl

-- ---- terms

module _ (g : Productions) (leaves : List Leaf) (vars : List Occurrence) where
  mutual
    unfolding occurrences row_occurrences pattern_of row_patterns rests_in_lists row_rests_in_lists

    pub term_mentions : (left : Bool) (sort : ℕ) (whole : Bool) (shape : Shape) (o : Occurrence) → rests_in_lists shape ≡ true → Has (occurrences g leaves left sort whole shape) o
        → mentions (its_number vars o) (pattern_of g leaves vars sort shape) ≡ true
    term_mentions left sort whole (LeafShape at) o rested h = placed_up vars (its_number vars o) sort (leaf_pattern vars leaves at) (leaf_up vars (slice_get leaves at) left sort whole o h)
    term_mentions left sort whole (NodeS' p _ shapes) o rested h =
        let parts = row_patterns g leaves vars false (sorts_of g p) 0 shapes in
        placed_up vars (its_number vars o) sort (built g p parts)
        (built_up vars (its_number vars o) (operator_of g.declared p) p parts (row_mentions_it left false false (sorts_of g p) 0 shapes o rested h))
    term_mentions left sort whole (ItemsS' p _ shapes rest) o rested h =
        let x = its_number vars o in
        let parts = row_patterns g leaves vars true (sorts_of g p) 0 shapes in
        let two = and_parts (is_rest_of_list p rest) (row_rests_in_lists shapes) rested in
        let front = row_occurrences g leaves left true (is_sequence p) (sorts_of g p) 0 shapes in
        let behind = rest_occurrence leaves left (place_sort true (sorts_of g p) 0) rest in
        placed_up vars x sort (items_of vars p parts (rest_number vars leaves rest))
        (⊎_elim
        (λ (part : Has front o). items_up vars x (is_sequence p) p parts (rest_number vars leaves rest) (row_mentions_it left true (is_sequence p) (sorts_of g p) 0 shapes o two.1 part))
        (λ (last : Has behind o). list_up vars x (is_sequence p) p parts (rest_number vars leaves rest)
        (of_list vars p leaves left (place_sort true (sorts_of g p) 0) rest o two.0 last) (rest_up vars leaves left (place_sort true (sorts_of g p) 0) rest o last))
        (has_either front behind o h))

    row_mentions_it : {n : _} (left list sequence : Bool) (sorts : List ℕ) (i : ℕ) (row : Row_of-Shape n) (o : Occurrence) → row_rests_in_lists row ≡ true
        → Has (row_occurrences g leaves left list sequence sorts i row) o → list_any (mentions (its_number vars o)) (row_patterns g leaves vars list sorts i row) ≡ true
    row_mentions_it left list sequence sorts i end_of-Shape o rested h = absurd h
    row_mentions_it left list sequence sorts i (more_of-Shape shape shapes) o rested h =
        let x = its_number vars o in
        let place = place_sort list sorts i in
        let two = and_parts (rests_in_lists shape) (row_rests_in_lists shapes) rested in
        let one = occurrences g leaves left place (takes_sequence sequence place (is_end shapes)) shape in
        let more = row_occurrences g leaves left list sequence sorts (i + 1) shapes in
        ⊎_elim
        (λ (here : Has one o). or_first (mentions x (pattern_of g leaves vars place shape)) (list_any (mentions x) (row_patterns g leaves vars list sorts (i + 1) shapes))
        (term_mentions left place (takes_sequence sequence place (is_end shapes)) shape o two.0 here))
        (λ (later : Has more o). or_last (mentions x (pattern_of g leaves vars place shape)) (list_any (mentions x) (row_patterns g leaves vars list sorts (i + 1) shapes))
        (row_mentions_it left list sequence sorts (i + 1) shapes o two.1 later))
        (has_either one more o h)
