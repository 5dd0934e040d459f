-- A variable that stands in the body of a content occurs among its parts, or is the rest of its `...`.
use Rattle.std.proofs.Common.{◌≡◌, ◌⊎◌, inl, inr, ⊎_elim, ℕ, zero, suc, ◌-◌, Bool, true, false, ◌==◌, ◌||◌, List, [], ◌∷◌, length, take, drop, Option, Some, None, refl, sym, ◌∙◌}
use Rattle.std.proofs.lemmas.Bool.{or_cases}
use Rattle.std.specs.Prelude.{slice_get}
use Rattle.std.specs.List.{list_any, flat_map}
use Rattle.k_terms.specs.Sorts.{sort_map, sort_list}
use Rattle.grammar_terms.specs.declared.shape.Shape.{Shape}
use Rattle.rule_terms.specs.declared.defs.Kind.{Kind}
use Rattle.rule_terms.specs.declared.defs.Kind.TheVariants.{Cells as CellsKind, Seq as SeqKind, Map as MapKind, List as ListKind, One as OneKind}
use Rattle.rule_terms.specs.declared.pattern.Pattern.{Pattern, Var, Lit, Seq, Node' as NodeP', Items' as ItemsP', Seq' as SeqP', Freezer' as FreezerP', Apply' as ApplyP'}
use Rattle.rule_terms.specs.declared.pattern.Body.{Map as MapBody, List as ListBody, Made as MadeBody}
use Rattle.rule_terms.specs.Patterns.{mentions, is_rest, body_rest, parts_mention}
use Rattle.rule_parts.specs.declared.argument_sorts.Productions.{Productions}
use Rattle.rule_parts.specs.declared.leaves.Leaf.{Leaf}
use Rattle.rule_parts.specs.declared.parts.Part.{Part}
use Rattle.rule_parts.specs.declared.terms.Occurrence.{Occurrence}
use Rattle.rule_parts.specs.Terms.{last_rest}
use Rattle.rule_parts.specs.Sides.{part_occurrences, what_sequence, what_items, what_entries, what_rests, what_made, of_side, items_before}
use Rattle.rule_drafts.specs.Bodies.{dots_number, seq_by, first_of, rest_by, variable_in, map_by, list_by, list_items, rest_place, one_by, body_of}
use Rattle.sound_drafts.proofs.Mentioned.{Occurs, front_any, last_any, mentions-Seq}
use Rattle.sound_drafts.proofs.Contents.{in_entry, is_it, sequence_occurs, items_occur, made_occurs, entries_occur, rests_occur}

or_first : (a b : Bool) → a ≡ true → (a || b) ≡ true
or_first true b e = refl
or_first false b e = absurd (let f : false ≡ true = e in cc)

or_last : (a b : Bool) → b ≡ true → (a || b) ≡ true
or_last true b e = refl
or_last false b e = e

-- what stands before a place of a list, or behind it, stands in it
either_part : {A : Type 0} (test : A → Bool) (n : ℕ) (xs : List A) → (list_any test (take n xs) || list_any test (drop n xs)) ≡ true → list_any test xs ≡ true
either_part test zero xs e = e
either_part test (suc n) [] e = e
either_part test (suc n) (x ∷ xs) e =
    ⊎_elim
    (λ (front : list_any test (take (suc n) (x ∷ xs)) ≡ true).
    ⊎_elim (λ (here : test x ≡ true). or_first (test x) (list_any test xs) here)
    (λ (later : list_any test (take n xs) ≡ true). or_last (test x) (list_any test xs) (either_part test n xs (or_first (list_any test (take n xs)) (list_any test (drop n xs)) later)))
    (or_cases (test x) (list_any test (take n xs)) front))
    (λ (behind : list_any test (drop n xs) ≡ true).
    or_last (test x) (list_any test xs) (either_part test n xs (or_last (list_any test (take n xs)) (list_any test (drop n xs)) behind)))
    (or_cases (list_any test (take (suc n) (x ∷ xs))) (list_any test (drop n xs)) e)

module _ (x : ℕ) where
  no_parts : mentions x (Seq [] None) ≡ true → ⊥
  no_parts e = absurd (let f : false ≡ true = sym (mentions-Seq x [] None) ∙ e in cc)

  -- ---- a whole content by an expression

  variable_rest : (part : Pattern) → is_rest x (variable_in part) ≡ true → mentions x part ≡ true
  unfolding mentions
  variable_rest (Var y) e = e
  variable_rest (Lit v) e = absurd (let f : false ≡ true = e in cc)
  variable_rest (NodeP' p s parts) e = absurd (let f : false ≡ true = e in cc)
  variable_rest (ItemsP' p s parts rest) e = absurd (let f : false ≡ true = e in cc)
  variable_rest (SeqP' s parts rest) e = absurd (let f : false ≡ true = e in cc)
  variable_rest (FreezerP' p i s parts) e = absurd (let f : false ≡ true = e in cc)
  variable_rest (ApplyP' op s parts) e = absurd (let f : false ≡ true = e in cc)

  map_made_parts : (part : Pattern) (o : Option ℕ) → parts_mention x (elim o [ Some y ↦ MapBody [] (Some y) | None ↦ MadeBody part ]) ≡ true → mentions x part ≡ true
  map_made_parts part None e = e
  map_made_parts part (Some y) e = absurd (let f : false ≡ true = e in cc)

  map_made_rest : (part : Pattern) (o : Option ℕ) → is_rest x (body_rest (elim o [ Some y ↦ MapBody [] (Some y) | None ↦ MadeBody part ])) ≡ true → is_rest x o ≡ true
  map_made_rest part None e = e
  map_made_rest part (Some y) e = e

  list_made_parts : (part : Pattern) (o : Option ℕ) → parts_mention x (elim o [ Some y ↦ ListBody [] (Some y) [] | None ↦ MadeBody part ]) ≡ true → mentions x part ≡ true
  list_made_parts part None e = e
  list_made_parts part (Some y) e = absurd (let f : false ≡ true = e in cc)

  list_made_rest : (part : Pattern) (o : Option ℕ) → is_rest x (body_rest (elim o [ Some y ↦ ListBody [] (Some y) [] | None ↦ MadeBody part ])) ≡ true → is_rest x o ≡ true
  list_made_rest part None e = e
  list_made_rest part (Some y) e = e

  -- ---- rests

  first_is_it : (rests : List ℕ) → is_rest x (first_of rests) ≡ true → list_any (λ y. x == y) rests ≡ true
  first_is_it [] e = absurd (let f : false ≡ true = e in cc)
  first_is_it (y ∷ rests) e = or_first (x == y) (list_any (λ z. x == z) rests) e

  rest_either : (o : Option ℕ) (rests : List ℕ) → is_rest x (rest_by o rests) ≡ true → (is_rest x o ≡ true) ⊎ (list_any (λ y. x == y) rests ≡ true)
  rest_either None rests e = inr (first_is_it rests e)
  rest_either (Some y) rests e = inl e

module _ (g : Productions) (leaves : List Leaf) (vars : List Occurrence) (x : ℕ) where
  seq_parts : (o : Option ℕ) (parts : List Pattern) → parts_mention x (seq_by vars o parts) ≡ true → list_any (mentions x) parts ≡ true
  seq_parts None parts e = front_any g leaves vars x (last_rest vars parts) parts e
  seq_parts (Some y) parts e = e

  seq_rest : (o : Option ℕ) (parts : List Pattern) → is_rest x (body_rest (seq_by vars o parts)) ≡ true → (is_rest x o ≡ true) ⊎ (list_any (mentions x) parts ≡ true)
  seq_rest None parts e = inr (last_any g leaves vars x parts (length parts - 1) (slice_get parts (length parts - 1)) refl e)
  seq_rest (Some y) parts e = inl e

  abbrev OccursIn : Kind → List (Part Shape) → Type 0
  OccursIn k parts = Occurs g leaves vars x (flat_map (part_occurrences g leaves k) parts)

  -- ---- maps, lists and single values, by what their parts are on a side

  map_parts : (made : List Pattern) (entries : List (Pattern × Pattern)) (rest : Option ℕ) → parts_mention x (map_by made entries rest) ≡ true
      → (list_any (mentions x) made ≡ true) ⊎ (list_any (in_entry g leaves vars x) entries ≡ true)
  map_parts [] entries rest e = inr e
  map_parts (part ∷ parts) entries rest e = inl (or_first (mentions x part) (list_any (mentions x) parts) (map_made_parts x part (variable_in part) e))

  map_rest : (made : List Pattern) (entries : List (Pattern × Pattern)) (rest : Option ℕ) → is_rest x (body_rest (map_by made entries rest)) ≡ true
      → (list_any (mentions x) made ≡ true) ⊎ (is_rest x rest ≡ true)
  map_rest [] entries rest e = inr e
  map_rest (part ∷ parts) entries rest e =
      inl (or_first (mentions x part) (list_any (mentions x) parts) (variable_rest x part (map_made_rest x part (variable_in part) e)))

  list_parts : (made items : List Pattern) (rest : Option ℕ) (place : ℕ) → parts_mention x (list_by made items rest place) ≡ true
      → (list_any (mentions x) made ≡ true) ⊎ (list_any (mentions x) items ≡ true)
  list_parts [] items None place e = inr (⊎_elim (λ (all : list_any (mentions x) items ≡ true). all) (λ (none : false ≡ true). absurd (cc)) (or_cases (list_any (mentions x) items) false e))
  list_parts [] items (Some y) place e = inr (either_part (mentions x) place items e)
  list_parts (part ∷ parts) items rest place e = inl (or_first (mentions x part) (list_any (mentions x) parts) (list_made_parts x part (variable_in part) e))

  list_rest : (made items : List Pattern) (rest : Option ℕ) (place : ℕ) → is_rest x (body_rest (list_by made items rest place)) ≡ true
      → (list_any (mentions x) made ≡ true) ⊎ (is_rest x rest ≡ true)
  list_rest [] items None place e = inr e
  list_rest [] items (Some y) place e = inr e
  list_rest (part ∷ parts) items rest place e =
      inl (or_first (mentions x part) (list_any (mentions x) parts) (variable_rest x part (list_made_rest x part (variable_in part) e)))

  one_parts : (parts : List Pattern) → parts_mention x (one_by parts) ≡ true → list_any (mentions x) parts ≡ true
  one_parts [] e = absurd (no_parts x e)
  one_parts (part ∷ parts) e = or_first (mentions x part) (list_any (mentions x) parts) e

  one_rest : (parts : List Pattern) → is_rest x (body_rest (one_by parts)) ≡ true → ⊥
  one_rest [] e = absurd (let f : false ≡ true = e in cc)
  one_rest (part ∷ parts) e = absurd (let f : false ≡ true = e in cc)

  -- ---- bodies

  pub parts_occur : (tag : _) (left : Bool) (parts : List (Part Shape)) (k : Kind) → parts_mention x (body_of g leaves vars tag left parts k) ≡ true → OccursIn k parts
  parts_occur tag left parts CellsKind e = absurd (let f : false ≡ true = e in cc)
  parts_occur tag left parts SeqKind e = sequence_occurs g leaves vars x left parts (seq_parts (dots_number vars tag) (of_side left (what_sequence g leaves vars) parts) e)
  parts_occur tag left parts MapKind e =
      ⊎_elim
      (λ (made : list_any (mentions x) (of_side left (what_made g leaves vars sort_map) parts) ≡ true). made_occurs g leaves vars x MapKind left parts made)
      (λ (some : list_any (in_entry g leaves vars x) (of_side left (what_entries g leaves vars) parts) ≡ true). entries_occur g leaves vars x MapKind left parts some)
      (map_parts (of_side left (what_made g leaves vars sort_map) parts) (of_side left (what_entries g leaves vars) parts)
      (rest_by (dots_number vars tag) (of_side left (what_rests leaves vars) parts)) e)
  parts_occur tag left parts ListKind e =
      ⊎_elim
      (λ (made : list_any (mentions x) (of_side left (what_made g leaves vars sort_list) parts) ≡ true). made_occurs g leaves vars x ListKind left parts made)
      (λ (some : list_any (mentions x) (list_items g leaves vars tag left parts) ≡ true). items_occur g leaves vars x ListKind left parts some)
      (list_parts (of_side left (what_made g leaves vars sort_list) parts) (list_items g leaves vars tag left parts)
      (rest_by (dots_number vars tag) (of_side left (what_rests leaves vars) parts))
      (rest_place tag (items_before left parts) (length (list_items g leaves vars tag left parts))) e)
  parts_occur tag left parts (OneKind sort) e = items_occur g leaves vars x (OneKind sort) left parts (one_parts (of_side left (what_items g leaves vars sort) parts) e)

  by_rest : (tag : _) (left : Bool) (parts : List (Part Shape)) (k : Kind) → is_rest x (rest_by (dots_number vars tag) (of_side left (what_rests leaves vars) parts)) ≡ true → (is_rest x (dots_number vars tag) ≡ true) ⊎ OccursIn k parts
  by_rest tag left parts k rest =
      ⊎_elim (λ (dots : is_rest x (dots_number vars tag) ≡ true). inl dots)
      (λ (some : list_any (is_it g leaves vars x) (of_side left (what_rests leaves vars) parts) ≡ true). inr (rests_occur g leaves vars x k left parts some))
      (rest_either x (dots_number vars tag) (of_side left (what_rests leaves vars) parts) rest)

  pub rest_occurs : (tag : _) (left : Bool) (parts : List (Part Shape)) (k : Kind) → is_rest x (body_rest (body_of g leaves vars tag left parts k)) ≡ true → (is_rest x (dots_number vars tag) ≡ true) ⊎ OccursIn k parts
  rest_occurs tag left parts CellsKind e = absurd (let f : false ≡ true = e in cc)
  rest_occurs tag left parts SeqKind e =
      ⊎_elim (λ (dots : is_rest x (dots_number vars tag) ≡ true). inl dots)
      (λ (some : list_any (mentions x) (of_side left (what_sequence g leaves vars) parts) ≡ true). inr (sequence_occurs g leaves vars x left parts some))
      (seq_rest (dots_number vars tag) (of_side left (what_sequence g leaves vars) parts) e)
  rest_occurs tag left parts MapKind e =
      ⊎_elim
      (λ (made : list_any (mentions x) (of_side left (what_made g leaves vars sort_map) parts) ≡ true). inr (made_occurs g leaves vars x MapKind left parts made))
      (λ (rest : is_rest x (rest_by (dots_number vars tag) (of_side left (what_rests leaves vars) parts)) ≡ true). by_rest tag left parts MapKind rest)
      (map_rest (of_side left (what_made g leaves vars sort_map) parts) (of_side left (what_entries g leaves vars) parts)
      (rest_by (dots_number vars tag) (of_side left (what_rests leaves vars) parts)) e)
  rest_occurs tag left parts ListKind e =
      ⊎_elim
      (λ (made : list_any (mentions x) (of_side left (what_made g leaves vars sort_list) parts) ≡ true). inr (made_occurs g leaves vars x ListKind left parts made))
      (λ (rest : is_rest x (rest_by (dots_number vars tag) (of_side left (what_rests leaves vars) parts)) ≡ true). by_rest tag left parts ListKind rest)
      (list_rest (of_side left (what_made g leaves vars sort_list) parts) (list_items g leaves vars tag left parts)
      (rest_by (dots_number vars tag) (of_side left (what_rests leaves vars) parts))
      (rest_place tag (items_before left parts) (length (list_items g leaves vars tag left parts))) e)
  rest_occurs tag left parts (OneKind sort) e = absurd (one_rest (of_side left (what_items g leaves vars sort) parts) e)
