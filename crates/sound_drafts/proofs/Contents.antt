-- A variable that stands in a content, beside its rest, occurs among the variables of the content's parts.
use Rattle.std.proofs.Common.{◌≡◌, ◌⊎◌, inl, inr, ⊎_elim, ℕ, Bool, true, false, cond, ◌==◌, ◌||◌, List, [], ◌∷◌, ◌++◌, Option, Some, None, refl, ap, ◌∙◌}
use Rattle.std.proofs.lemmas.Bool.{or_cases}
use Rattle.std.specs.Prelude.{slice_get}
use Rattle.std.specs.List.{list_any, flat_map}
use Rattle.k_terms.specs.Sorts.{sort_k, sort_kitem}
use Rattle.grammar_terms.specs.declared.shape.Shape.{Shape}
use Rattle.rule_terms.specs.declared.defs.Kind.{Kind}
use Rattle.rule_terms.specs.declared.defs.Kind.TheVariants.{Seq as SeqKind}
use Rattle.rule_terms.specs.declared.pattern.Pattern.{Pattern, Var, Lit, Node' as NodeP', Items' as ItemsP', Seq' as SeqP', Freezer' as FreezerP', Apply' as ApplyP', items-the_row-Pattern}
use Rattle.rule_terms.specs.Patterns.{mentions, row_mentions, is_rest}
use Rattle.rule_parts.specs.declared.argument_sorts.Productions.{Productions}
use Rattle.rule_parts.specs.declared.leaves.Leaf.{Leaf}
use Rattle.rule_parts.specs.declared.parts.Part.{Part}
use Rattle.rule_parts.specs.declared.parts.What.{What}
use Rattle.rule_parts.specs.declared.parts.What.TheVariants.{Item, Tail, Entry, Rest, Made, Inner, Whole}
use Rattle.rule_parts.specs.declared.terms.Occurrence.{Occurrence}
use Rattle.rule_parts.specs.Terms.{occurrences, pattern_of, variable_at}
use Rattle.rule_parts.specs.Sides.{is_left, stands, item_sort, whole_sort, what_occurrences, part_occurrences, as_list, variables_of, sequence_parts, what_sequence, what_items, what_entries, what_rests, what_made, on_side, of_side}
use Rattle.sound_drafts.proofs.Mentioned.{row_is, Occurs, occurs_left, occurs_right, variable_occurs, term_occurs}

only : (b : Bool) → (b || false) ≡ true → b ≡ true
only true e = refl
only false e = e

any_either : {A : Type 0} (test : A → Bool) (xs ys : List A) → list_any test (xs ++ ys) ≡ true → (list_any test xs ≡ true) ⊎ (list_any test ys ≡ true)
any_either test [] ys e = inr e
any_either test (x ∷ xs) ys e =
    ⊎_elim (λ (here : test x ≡ true). inl (ap (λ b. b || list_any test xs) here))
    (λ (later : list_any test (xs ++ ys) ≡ true). elim (any_either test xs ys later) [ inl front ↦ inl (or_end (test x) (list_any test xs) front) | inr behind ↦ inr behind ])
    (or_cases (test x) (list_any test (xs ++ ys)) e)
  where
    or_end : (a b : Bool) → b ≡ true → (a || b) ≡ true
    or_end true b e = refl
    or_end false b e = e

side_any : {A : Type 0} (test : A → Bool) (b : Bool) (xs : List A) → list_any test (cond b xs []) ≡ true → list_any test xs ≡ true
side_any test true xs e = e
side_any test false xs e = absurd (let f : false ≡ true = e in cc)

none_any : {A : Type 0} (test : A → Bool) → list_any test [] ≡ true → ⊥
none_any test e = absurd (let f : false ≡ true = e in cc)

module _ (x : ℕ) where
  var_rest : (o : Option ℕ) → list_any (mentions x) (variables_of o) ≡ true → is_rest x o ≡ true
  unfolding mentions
  var_rest None e = e
  var_rest (Some y) e = only (x == y) e

  or_joined : (a b : Bool) → (a ≡ true) ⊎ (b ≡ true) → (a || b) ≡ true
  or_joined true b e = refl
  or_joined false b (inl e) = absurd (let f : false ≡ true = e in cc)
  or_joined false b (inr e) = e

  -- the parts of a sequence
  parts_in : (part : Pattern) → list_any (mentions x) (sequence_parts part) ≡ true → mentions x part ≡ true
  unfolding mentions
  parts_in (Var y) e = only (x == y) e
  parts_in (Lit v) e = only false e
  parts_in (NodeP' p s parts) e = only (mentions x (NodeP' p s parts)) e
  parts_in (ItemsP' p s parts rest) e = only (mentions x (ItemsP' p s parts rest)) e
  parts_in (SeqP' s parts rest) e =
      or_joined (row_mentions x parts) (is_rest x rest)
      (⊎_elim (λ (front : list_any (mentions x) (items-the_row-Pattern _ parts) ≡ true). inl (row_is x parts ∙ front))
      (λ (behind : list_any (mentions x) (variables_of rest) ≡ true). inr (var_rest rest behind))
      (any_either (mentions x) (items-the_row-Pattern _ parts) (variables_of rest) e))
  parts_in (FreezerP' p i s parts) e = only (mentions x (FreezerP' p i s parts)) e
  parts_in (ApplyP' op s parts) e = only (mentions x (ApplyP' op s parts)) e

module _ (g : Productions) (leaves : List Leaf) (vars : List Occurrence) (x : ℕ) where
  abbrev In : Kind → Bool → What Shape → Type 0
  In k on what = Occurs g leaves vars x (what_occurrences g leaves k on what)

  sequence_each : (on : Bool) (what : What Shape) → list_any (mentions x) (what_sequence g leaves vars what) ≡ true → In SeqKind on what
  sequence_each on (Item shape) e = term_occurs g leaves vars x on sort_kitem (sort_kitem == sort_k) shape (only (mentions x (pattern_of g leaves vars sort_kitem shape)) e)
  sequence_each on (Tail at) e = variable_occurs g leaves vars x (slice_get leaves at) on sort_k (var_rest x (variable_at vars leaves at) e)
  sequence_each on (Entry key value) e = absurd (none_any (mentions x) e)
  sequence_each on (Rest at) e = absurd (none_any (mentions x) e)
  sequence_each on (Made shape) e = term_occurs g leaves vars x on sort_k true shape (parts_in x (pattern_of g leaves vars sort_k shape) e)
  sequence_each on (Inner at) e = absurd (none_any (mentions x) e)
  sequence_each on Whole e = absurd (none_any (mentions x) e)

  items_each : (k : Kind) (on : Bool) (what : What Shape) → list_any (mentions x) (what_items g leaves vars (item_sort k) what) ≡ true → In k on what
  items_each k on (Item shape) e = term_occurs g leaves vars x on (item_sort k) (item_sort k == sort_k) shape (only (mentions x (pattern_of g leaves vars (item_sort k) shape)) e)
  items_each k on (Tail at) e = absurd (none_any (mentions x) e)
  items_each k on (Entry key value) e = absurd (none_any (mentions x) e)
  items_each k on (Rest at) e = absurd (none_any (mentions x) e)
  items_each k on (Made shape) e = absurd (none_any (mentions x) e)
  items_each k on (Inner at) e = absurd (none_any (mentions x) e)
  items_each k on Whole e = absurd (none_any (mentions x) e)

  made_each : (k : Kind) (on : Bool) (what : What Shape) → list_any (mentions x) (what_made g leaves vars (whole_sort k) what) ≡ true → In k on what
  made_each k on (Item shape) e = absurd (none_any (mentions x) e)
  made_each k on (Tail at) e = absurd (none_any (mentions x) e)
  made_each k on (Entry key value) e = absurd (none_any (mentions x) e)
  made_each k on (Rest at) e = absurd (none_any (mentions x) e)
  made_each k on (Made shape) e = term_occurs g leaves vars x on (whole_sort k) true shape (only (mentions x (pattern_of g leaves vars (whole_sort k) shape)) e)
  made_each k on (Inner at) e = absurd (none_any (mentions x) e)
  made_each k on Whole e = absurd (none_any (mentions x) e)

  abbrev pub in_entry : Pattern × Pattern → Bool
  in_entry e = mentions x e.0 || mentions x e.1

  entries_each : (k : Kind) (on : Bool) (what : What Shape) → list_any in_entry (what_entries g leaves vars what) ≡ true → In k on what
  entries_each k on (Item shape) e = absurd (none_any in_entry e)
  entries_each k on (Tail at) e = absurd (none_any in_entry e)
  entries_each k on (Entry key value) e =
      let keys = occurrences g leaves on sort_kitem false key in
      let values = occurrences g leaves on sort_kitem false value in
      let either = only (mentions x (pattern_of g leaves vars sort_kitem key) || mentions x (pattern_of g leaves vars sort_kitem value)) e in
      ⊎_elim (λ (here : mentions x (pattern_of g leaves vars sort_kitem key) ≡ true). occurs_left g leaves vars x keys values (term_occurs g leaves vars x on sort_kitem false key here))
      (λ (there : mentions x (pattern_of g leaves vars sort_kitem value) ≡ true). occurs_right g leaves vars x keys values (term_occurs g leaves vars x on sort_kitem false value there))
      (or_cases (mentions x (pattern_of g leaves vars sort_kitem key)) (mentions x (pattern_of g leaves vars sort_kitem value)) either)
  entries_each k on (Rest at) e = absurd (none_any in_entry e)
  entries_each k on (Made shape) e = absurd (none_any in_entry e)
  entries_each k on (Inner at) e = absurd (none_any in_entry e)
  entries_each k on Whole e = absurd (none_any in_entry e)

  abbrev pub is_it : ℕ → Bool
  is_it y = x == y

  listed_rest : (o : Option ℕ) → list_any is_it (as_list o) ≡ true → is_rest x o ≡ true
  listed_rest None e = absurd (none_any is_it e)
  listed_rest (Some y) e = only (x == y) e

  rests_each : (k : Kind) (on : Bool) (what : What Shape) → list_any is_it (what_rests leaves vars what) ≡ true → In k on what
  rests_each k on (Item shape) e = absurd (none_any is_it e)
  rests_each k on (Tail at) e = absurd (none_any is_it e)
  rests_each k on (Entry key value) e = absurd (none_any is_it e)
  rests_each k on (Rest at) e = variable_occurs g leaves vars x (slice_get leaves at) on (whole_sort k) (listed_rest (variable_at vars leaves at) e)
  rests_each k on (Made shape) e = absurd (none_any is_it e)
  rests_each k on (Inner at) e = absurd (none_any is_it e)
  rests_each k on Whole e = absurd (none_any is_it e)

  -- what stands in one of the parts of a side
  of_parts : {A : Type 0} (test : A → Bool) (f : What Shape → List A) (k : Kind) (left : Bool) → ((on : Bool) (what : What Shape) → list_any test (f what) ≡ true → In k on what)
      → (parts : List (Part Shape)) → list_any test (of_side left f parts) ≡ true → Occurs g leaves vars x (flat_map (part_occurrences g leaves k) parts)
  of_parts test f k left each [] e = absurd (none_any test e)
  of_parts test f k left each (part ∷ parts) e =
      let here = part_occurrences g leaves k part in
      let later = flat_map (part_occurrences g leaves k) parts in
      ⊎_elim
      (λ (one : list_any test (on_side left f part) ≡ true).
      occurs_left g leaves vars x here later (each (is_left part.side) part.what (side_any test (stands left part.side) (f part.what) one)))
      (λ (more : list_any test (of_side left f parts) ≡ true). occurs_right g leaves vars x here later (of_parts test f k left each parts more))
      (any_either test (on_side left f part) (of_side left f parts) e)

  pub sequence_occurs : (left : Bool) (parts : List (Part Shape)) → list_any (mentions x) (of_side left (what_sequence g leaves vars) parts) ≡ true
      → Occurs g leaves vars x (flat_map (part_occurrences g leaves SeqKind) parts)
  sequence_occurs left parts e = of_parts (mentions x) (what_sequence g leaves vars) SeqKind left sequence_each parts e

  pub items_occur : (k : Kind) (left : Bool) (parts : List (Part Shape)) → list_any (mentions x) (of_side left (what_items g leaves vars (item_sort k)) parts) ≡ true
      → Occurs g leaves vars x (flat_map (part_occurrences g leaves k) parts)
  items_occur k left parts e = of_parts (mentions x) (what_items g leaves vars (item_sort k)) k left (items_each k) parts e

  pub made_occurs : (k : Kind) (left : Bool) (parts : List (Part Shape)) → list_any (mentions x) (of_side left (what_made g leaves vars (whole_sort k)) parts) ≡ true
      → Occurs g leaves vars x (flat_map (part_occurrences g leaves k) parts)
  made_occurs k left parts e = of_parts (mentions x) (what_made g leaves vars (whole_sort k)) k left (made_each k) parts e

  pub entries_occur : (k : Kind) (left : Bool) (parts : List (Part Shape)) → list_any in_entry (of_side left (what_entries g leaves vars) parts) ≡ true
      → Occurs g leaves vars x (flat_map (part_occurrences g leaves k) parts)
  entries_occur k left parts e = of_parts in_entry (what_entries g leaves vars) k left (entries_each k) parts e

  pub rests_occur : (k : Kind) (left : Bool) (parts : List (Part Shape)) → list_any is_it (of_side left (what_rests leaves vars) parts) ≡ true
      → Occurs g leaves vars x (flat_map (part_occurrences g leaves k) parts)
  rests_occur k left parts e = of_parts is_it (what_rests leaves vars) k left (rests_each k) parts e
