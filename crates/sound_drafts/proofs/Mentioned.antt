-- A variable that stands in the pattern of a term occurs in the term.
use Rattle.std.proofs.Common.{◌≡◌, ◌⊎◌, inl, ⊎_elim, ℕ, zero, suc, ◌+◌, ◌-◌, Bool, true, false, cond, ◌==◌, ◌||◌, List, [], ◌∷◌, ◌++◌, length, take, Option, Some, None, refl, sym, ap, ◌∙◌}
use Rattle.std.proofs.lemmas.Bool.{eqb-true, or_cases}
use Rattle.std.specs.Prelude.{slice_get}
use Rattle.std.specs.Option.{option_and_then}
use Rattle.std.specs.List.{list_any}
use mathlib.Core.Former.{Count}
use Rattle.k_terms.specs.Sorts.{sort_k}
use Rattle.k_terms.specs.declared.op.Op.{Op}
use Rattle.grammar_terms.specs.declared.shape.Shape.{Shape, Leaf as LeafShape, Node' as NodeS', Items' as ItemsS', Row_of-Shape, end_of-Shape, more_of-Shape}
use Rattle.live_config.proofs.Members.{Has, has_left, has_right}
use Rattle.rule_terms.specs.declared.pattern.Pattern.{Pattern, Var, Lit, Node, Items, Seq, Apply, Node' as NodeP', Items' as ItemsP', Seq' as SeqP', Freezer' as FreezerP', Apply' as ApplyP', Row_of-Pattern, end_of-Pattern, more_of-Pattern, items-the_row-Pattern, items_hidden-the_row-Pattern-0}
use Rattle.rule_terms.specs.declared.pattern.Pattern.TheBlock.{hidden-the_row-Pattern-0}
use Rattle.rule_terms.specs.Patterns.{mentions, row_mentions, is_rest}
use Rattle.rule_parts.specs.declared.argument_sorts.Productions.{Productions}
use Rattle.rule_parts.specs.declared.leaves.Leaf.{Leaf}
use Rattle.rule_parts.specs.declared.leaves.LeafKind.{LeafKind}
use Rattle.rule_parts.specs.declared.leaves.LeafKind.TheVariants.{Variable, Literal, Other}
use Rattle.rule_parts.specs.declared.terms.Occurrence.{Occurrence}
use Rattle.rule_parts.specs.Terms.{sorts_of, place_sort, takes_sequence, is_sequence, is_end, occurrence_by, leaf_by, rest_occurrence, occurrences, row_occurrences, number_of, operator_of, built_by, built, pattern_by, pattern_at, leaf_pattern, leaf_number, rest_number, is_of_sort_k, tail_of, last_rest, before_rest, front_parts, sequence_of, is_whole, as_sequence, at_place, items_of, pattern_of, row_patterns}

-- ---- what stands in patterns that are made of others

pub row_is : {n : Count} (x : ℕ) (row : Row_of-Pattern n) → row_mentions x row ≡ list_any (mentions x) (items-the_row-Pattern n row)
unfolding row_mentions
row_is x end_of-Pattern = refl
row_is x (more_of-Pattern part parts) = ap (λ b. mentions x part || b) (row_is x parts)

hidden_is : (x : ℕ) (parts : List Pattern) → row_mentions x (hidden-the_row-Pattern-0 parts) ≡ list_any (mentions x) parts
hidden_is x parts = row_is x (hidden-the_row-Pattern-0 parts) ∙ ap (list_any (mentions x)) (items_hidden-the_row-Pattern-0 parts)

pub mentions-Node : (x p : ℕ) (parts : List Pattern) → mentions x (Node p parts) ≡ list_any (mentions x) parts
unfolding mentions
mentions-Node x p parts = hidden_is x parts

pub mentions-Apply : (x : ℕ) (op : Op) (parts : List Pattern) → mentions x (Apply op parts) ≡ list_any (mentions x) parts
unfolding mentions
mentions-Apply x op parts = hidden_is x parts

pub mentions-Items : (x p : ℕ) (parts : List Pattern) (rest : Option ℕ) → mentions x (Items p parts rest) ≡ (list_any (mentions x) parts || is_rest x rest)
unfolding mentions
mentions-Items x p parts rest = ap (λ b. b || is_rest x rest) (hidden_is x parts)

pub mentions-Seq : (x : ℕ) (parts : List Pattern) (rest : Option ℕ) → mentions x (Seq parts rest) ≡ (list_any (mentions x) parts || is_rest x rest)
unfolding mentions
mentions-Seq x parts rest = ap (λ b. b || is_rest x rest) (hidden_is x parts)

-- ---- a front, and a rest

any_taken : (test : Pattern → Bool) (n : ℕ) (parts : List Pattern) → list_any test (take n parts) ≡ true → list_any test parts ≡ true
any_taken test zero parts e = absurd (let f : false ≡ true = e in cc)
any_taken test (suc n) [] e = e
any_taken test (suc n) (part ∷ parts) e =
    ⊎_elim (λ (here : test part ≡ true). ap (λ b. b || list_any test parts) here)
    (λ (later : list_any test (take n parts) ≡ true). or_last (test part) (list_any test parts) (any_taken test n parts later))
    (or_cases (test part) (list_any test (take n parts)) e)
  where
    or_last : (a b : Bool) → b ≡ true → (a || b) ≡ true
    or_last true b e = refl
    or_last false b e = e

any_at : (test : Pattern → Bool) (n : ℕ) (parts : List Pattern) (part : Pattern) → slice_get parts n ≡ Some part → test part ≡ true → list_any test parts ≡ true
any_at test n [] part at e = absurd (let f : None ≡ Some part = at in cc)
any_at test zero (p ∷ parts) part at e = let same : p ≡ part = cc in ap (λ b. b || list_any test parts) (ap test same ∙ e)
any_at test (suc n) (p ∷ parts) part at e = or_end (test p) (list_any test parts) (any_at test n parts part at e)
  where
    or_end : (a b : Bool) → b ≡ true → (a || b) ≡ true
    or_end true b e = refl
    or_end false b e = e

module _ (g : Productions) (leaves : List Leaf) (vars : List Occurrence) (x : ℕ) where
  -- it is the number of a variable that occurs
  pub record Occurs (found : List Occurrence) : Type 0 where
    pub one : Occurrence
    pub has : Has found one
    pub number : x ≡ number_of vars one.home

  pub occurs_left : (xs ys : List Occurrence) → Occurs xs → Occurs (xs ++ ys)
  occurs_left xs ys o = record { one = o.one; has = has_left xs ys o.one o.has; number = o.number }

  pub occurs_right : (xs ys : List Occurrence) → Occurs ys → Occurs (xs ++ ys)
  occurs_right xs ys o = record { one = o.one; has = has_right xs ys o.one o.has; number = o.number }

  -- ---- leaves

  no_sequence : mentions x (Seq [] None) ≡ true → ⊥
  no_sequence e = absurd (let f : false ≡ true = sym (mentions-Seq x [] None) ∙ e in cc)

  kind_occurs : (at : ℕ) (k : LeafKind) (left : Bool) (sort : ℕ) (whole : Bool) → mentions x (pattern_by vars k) ≡ true → Occurs (occurrence_by at k left sort whole)
  unfolding mentions
  kind_occurs at (Variable home None) left sort whole e = record { one = _; has = inl refl; number = eqb-true x (number_of vars home) e }
  kind_occurs at (Variable home (Some own)) left sort whole e = record { one = _; has = inl refl; number = eqb-true x (number_of vars home) e }
  kind_occurs at (Literal value) left sort whole e = absurd (let f : false ≡ true = e in cc)
  kind_occurs at Other left sort whole e = absurd (no_sequence e)

  leaf_occurs : (o : Option Leaf) (left : Bool) (sort : ℕ) (whole : Bool) → mentions x (pattern_at vars o) ≡ true → Occurs (leaf_by o left sort whole)
  leaf_occurs None left sort whole e = absurd (no_sequence e)
  leaf_occurs (Some leaf) left sort whole e = kind_occurs leaf.at leaf.kind left sort whole e

  number_occurs : (at : ℕ) (k : LeafKind) (left : Bool) (sort : ℕ) → is_rest x (leaf_number vars k) ≡ true → Occurs (occurrence_by at k left sort true)
  number_occurs at (Variable home None) left sort e = record { one = _; has = inl refl; number = eqb-true x (number_of vars home) e }
  number_occurs at (Variable home (Some own)) left sort e = record { one = _; has = inl refl; number = eqb-true x (number_of vars home) e }
  number_occurs at (Literal value) left sort e = absurd (let f : false ≡ true = e in cc)
  number_occurs at Other left sort e = absurd (let f : false ≡ true = e in cc)

  pub variable_occurs : (o : Option Leaf) (left : Bool) (sort : ℕ) → is_rest x (option_and_then (λ (leaf : Leaf). leaf_number vars leaf.kind) o) ≡ true → Occurs (leaf_by o left sort true)
  variable_occurs None left sort e = absurd (let f : false ≡ true = e in cc)
  variable_occurs (Some leaf) left sort e = number_occurs leaf.at leaf.kind left sort e

  rest_occurs : (left : Bool) (sort : ℕ) (rest : Option ℕ) → is_rest x (rest_number vars leaves rest) ≡ true → Occurs (rest_occurrence leaves left sort rest)
  rest_occurs left sort None e = absurd (let f : false ≡ true = e in cc)
  rest_occurs left sort (Some at) e = variable_occurs (slice_get leaves at) left sort e

  -- ---- a term at a place

  one_alone : (b : Bool) → ((b || false) || false) ≡ true → b ≡ true
  one_alone true e = refl
  one_alone false e = e

  by_whole : (b : Bool) (part : Pattern) → mentions x (cond b part (Seq (part ∷ []) None)) ≡ true → mentions x part ≡ true
  by_whole true part e = e
  by_whole false part e = one_alone (mentions x part) (sym (mentions-Seq x (part ∷ []) None) ∙ e)

  by_sort : (b : Bool) (part : Pattern) → mentions x (cond b (as_sequence vars part) part) ≡ true → mentions x part ≡ true
  by_sort true part e = by_whole (is_whole vars part) part e
  by_sort false part e = e

  placed : (sort : ℕ) (part : Pattern) → mentions x (at_place vars sort part) ≡ true → mentions x part ≡ true
  placed sort part e = by_sort (sort == sort_k) part e

  -- ---- a term of others

  built_parts : (o : Option Op) (p : ℕ) (parts : List Pattern) → mentions x (built_by o p parts) ≡ true → list_any (mentions x) parts ≡ true
  built_parts None p parts e = sym (mentions-Node x p parts) ∙ e
  built_parts (Some op) p parts e = sym (mentions-Apply x op parts) ∙ e

  pub front_any : (o : Option ℕ) (parts : List Pattern) → list_any (mentions x) (before_rest o parts) ≡ true → list_any (mentions x) parts ≡ true
  front_any None parts e = e
  front_any (Some y) parts e = any_taken (mentions x) (length parts - 1) parts e

  sort_tail : (b : Bool) (y : ℕ) → is_rest x (cond b (Some y) None) ≡ true → (x == y) ≡ true
  sort_tail true y e = e
  sort_tail false y e = absurd (let f : false ≡ true = e in cc)

  tail_mentions : (part : Pattern) → is_rest x (tail_of vars part) ≡ true → mentions x part ≡ true
  unfolding mentions
  tail_mentions (Var y) e = sort_tail (is_of_sort_k vars y) y e
  tail_mentions (Lit v) e = absurd (let f : false ≡ true = e in cc)
  tail_mentions (NodeP' p _ parts) e = absurd (let f : false ≡ true = e in cc)
  tail_mentions (ItemsP' p _ parts rest) e = absurd (let f : false ≡ true = e in cc)
  tail_mentions (SeqP' _ parts rest) e = absurd (let f : false ≡ true = e in cc)
  tail_mentions (FreezerP' p i _ parts) e = absurd (let f : false ≡ true = e in cc)
  tail_mentions (ApplyP' op _ parts) e = absurd (let f : false ≡ true = e in cc)

  pub last_any : (parts : List Pattern) (n : ℕ) (o : Option Pattern) → slice_get parts n ≡ o → is_rest x (option_and_then (tail_of vars) o) ≡ true → list_any (mentions x) parts ≡ true
  last_any parts n None at e = absurd (let f : false ≡ true = e in cc)
  last_any parts n (Some part) at e = any_at (mentions x) n parts part at (tail_mentions part e)

  items_parts : (b : Bool) (p : ℕ) (parts : List Pattern) (rest : Option ℕ) → mentions x (cond b (sequence_of vars parts) (Items p parts rest)) ≡ true
      → (list_any (mentions x) parts ≡ true) ⊎ (is_rest x rest ≡ true)
  items_parts true p parts rest e =
      inl (⊎_elim (λ (front : list_any (mentions x) (front_parts vars parts) ≡ true). front_any (last_rest vars parts) parts front)
      (λ (last : is_rest x (last_rest vars parts) ≡ true). last_any parts (length parts - 1) (slice_get parts (length parts - 1)) refl last)
      (or_cases (list_any (mentions x) (front_parts vars parts)) (is_rest x (last_rest vars parts)) (sym (mentions-Seq x (front_parts vars parts) (last_rest vars parts)) ∙ e)))
  items_parts false p parts rest e = or_cases (list_any (mentions x) parts) (is_rest x rest) (sym (mentions-Items x p parts rest) ∙ e)

  -- ---- terms

  mutual
    unfolding occurrences row_occurrences pattern_of row_patterns

    pub term_occurs : (left : Bool) (sort : ℕ) (whole : Bool) (shape : Shape) → mentions x (pattern_of g leaves vars sort shape) ≡ true → Occurs (occurrences g leaves left sort whole shape)
    term_occurs left sort whole (LeafShape at) e = leaf_occurs (slice_get leaves at) left sort whole (placed sort (leaf_pattern vars leaves at) e)
    term_occurs left sort whole (NodeS' p _ shapes) e =
        row_occurs left false false (sorts_of g p) 0 shapes
        (built_parts (operator_of g.declared p) p (row_patterns g leaves vars false (sorts_of g p) 0 shapes) (placed sort (built g p (row_patterns g leaves vars false (sorts_of g p) 0 shapes)) e))
    term_occurs left sort whole (ItemsS' p _ shapes rest) e =
        let parts = row_patterns g leaves vars true (sorts_of g p) 0 shapes in
        let front = row_occurrences g leaves left true (is_sequence p) (sorts_of g p) 0 shapes in
        let behind = rest_occurrence leaves left (place_sort true (sorts_of g p) 0) rest in
        ⊎_elim (λ (part : list_any (mentions x) parts ≡ true). occurs_left front behind (row_occurs left true (is_sequence p) (sorts_of g p) 0 shapes part))
        (λ (last : is_rest x (rest_number vars leaves rest) ≡ true). occurs_right front behind (rest_occurs left (place_sort true (sorts_of g p) 0) rest last))
        (items_parts (is_sequence p) p parts (rest_number vars leaves rest) (placed sort (items_of vars p parts (rest_number vars leaves rest)) e))

    row_occurs : {n : _} (left list sequence : Bool) (sorts : List ℕ) (i : ℕ) (row : Row_of-Shape n) → list_any (mentions x) (row_patterns g leaves vars list sorts i row) ≡ true
        → Occurs (row_occurrences g leaves left list sequence sorts i row)
    row_occurs left list sequence sorts i end_of-Shape e = absurd (let f : false ≡ true = e in cc)
    row_occurs left list sequence sorts i (more_of-Shape shape shapes) e =
        let one = occurrences g leaves left (place_sort list sorts i) (takes_sequence sequence (place_sort list sorts i) (is_end shapes)) shape in
        let more = row_occurrences g leaves left list sequence sorts (i + 1) shapes in
        ⊎_elim
        (λ (here : mentions x (pattern_of g leaves vars (place_sort list sorts i) shape) ≡ true).
        occurs_left one more (term_occurs left (place_sort list sorts i) (takes_sequence sequence (place_sort list sorts i) (is_end shapes)) shape here))
        (λ (later : list_any (mentions x) (row_patterns g leaves vars list sorts (i + 1) shapes) ≡ true). occurs_right one more (row_occurs left list sequence sorts (i + 1) shapes later))
        (or_cases (mentions x (pattern_of g leaves vars (place_sort list sorts i) shape)) (list_any (mentions x) (row_patterns g leaves vars list sorts (i + 1) shapes)) e)
