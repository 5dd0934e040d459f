-- Where a variable stands in a draft that was read: in a content, as the rest of a cell's `...`, or in the condition.
use Rattle.std.proofs.Common.{◌≡◌, ◌⊎◌, inl, inr, ⊎_elim, ℕ, Bool, true, false, cond, ◌||◌, List, ◌++◌, drop, Option, Some, None, refl, sym, ap, ◌∙◌}
use Rattle.std.proofs.lemmas.Bool.{eqb-true}
use Rattle.std.specs.List.{list_any, flat_map}
use Rattle.k_terms.specs.Sorts.{sort_bool}
use Rattle.live_config.proofs.Members.{Has, has_left, has_right}
use Rattle.rule_terms.specs.declared.defs.CellShape.{CellShape}
use Rattle.rule_terms.specs.Patterns.{mentions, is_rest, body_rest, parts_mention, cond_mentions}
use Rattle.rule_tokens.specs.declared.token.RuleToken.{RuleToken}
use Rattle.rule_cells.specs.declared.form.Inside.{Inside, Cells as CellsInside, Content as ContentInside}
use Rattle.rule_parts.specs.declared.argument_sorts.Productions.{Productions}
use Rattle.rule_parts.specs.declared.leaves.Leaf.{Leaf}
use Rattle.rule_parts.specs.declared.parts.Side.{Side as Stands}
use Rattle.rule_parts.specs.declared.terms.Occurrence.{Occurrence}
use Rattle.rule_parts.specs.Sides.{part_occurrences, whole_sort, is_left}
use Rattle.rule_parts.specs.Terms.{number_of}
use Rattle.rule_drafts.specs.declared.reading.Condition.{Condition}
use Rattle.rule_drafts.specs.declared.reading.Reading.{Reading}
use Rattle.rule_drafts.specs.Bodies.{dots_number, dots_before, dots_behind}
use Rattle.rule_drafts.specs.Cells.{kind_of, tag_of, parts_at, inside_body, content_occurrences}
use Rattle.rule_drafts.specs.Drafts.{condition_occurrences, when_of}
use Rattle.rule_drafts.proofs.ItemLayers.{body-Cells, body-Content}
use Rattle.sound_drafts.proofs.Mentioned.{Occurs, term_occurs}
use Rattle.sound_drafts.proofs.Bodies.{parts_occur, rest_occurs}

module _ (g : Productions) (leaves : List Leaf) (shapes : List CellShape) (readings : List Reading) (vars : List Occurrence) (tokens : List RuleToken) (x : ℕ) where
  -- the variables of the parts of a content that begins at a token
  abbrev pub parts_found : Stands → ℕ → ℕ → Bool → Bool → ℕ → List Occurrence
  parts_found on cell start before behind first =
      flat_map (part_occurrences g (drop first leaves) (kind_of shapes cell)) (parts_at g leaves shapes readings on (tag_of cell start before behind) first)

  -- it is among the parts of the content that is inside
  pub record IsInside (on : Stands) (cell start : ℕ) (before behind : Bool) (inside : Inside) : Type 0 where
    pub first : ℕ
    pub past : ℕ
    pub is : inside ≡ ContentInside first past
    pub occurs : Occurs g (drop first leaves) vars x (parts_found on cell start before behind first)

  -- it is the rest of `...`
  pub record IsDots (start : ℕ) (before behind : Bool) : Type 0 where
    pub dots : (before || behind) ≡ true
    pub number : x ≡ number_of vars start

  dotted : (b : Bool) (n start : ℕ) → n ≡ number_of vars start → is_rest x (cond b (Some n) None) ≡ true → (b ≡ true) × (x ≡ number_of vars start)
  dotted true n start is e = (refl, eqb-true x n e ∙ is)
  dotted false n start is e = absurd (let f : false ≡ true = e in cc)

  are_dots : (cell start : ℕ) (before behind : Bool) → is_rest x (dots_number vars (tag_of cell start before behind)) ≡ true → IsDots start before behind
  are_dots cell start before behind e = let d = dotted (before || behind) (number_of vars start) start refl e in record { dots = d.0; number = d.1 }

  module _ (left : Bool) (on : Stands) (cell start : ℕ) (before behind : Bool) where
    -- beside the rest of a body it stands in a content
    pub beside_rest : (inside : Inside) → parts_mention x (inside_body g leaves shapes readings vars tokens left on (tag_of cell start before behind) inside) ≡ true
        → IsInside on cell start before behind inside
    beside_rest (CellsInside inner) e =
        absurd (let f : false ≡ true = sym (ap (parts_mention x) (body-Cells g leaves shapes readings vars tokens left on (tag_of cell start before behind) inner)) ∙ e in cc)
    beside_rest (ContentInside first past) e = record {
      first = first;
      past = past;
      is = refl;
      occurs = parts_occur g (drop first leaves) vars x (tag_of cell start before behind) left (parts_at g leaves shapes readings on (tag_of cell start before behind) first) (kind_of shapes cell)
          (sym (ap (parts_mention x) (body-Content g leaves shapes readings vars tokens left on (tag_of cell start before behind) first past)) ∙ e);
    }

    -- the rest of a body is that of `...`, or stands in a content
    pub as_rest : (inside : Inside) → is_rest x (body_rest (inside_body g leaves shapes readings vars tokens left on (tag_of cell start before behind) inside)) ≡ true
        → IsDots start before behind ⊎ IsInside on cell start before behind inside
    as_rest (CellsInside inner) e =
        inl (are_dots cell start before behind
        (sym (ap (λ b. is_rest x (body_rest b)) (body-Cells g leaves shapes readings vars tokens left on (tag_of cell start before behind) inner)) ∙ e))
    as_rest (ContentInside first past) e =
        ⊎_elim (λ (dots : is_rest x (dots_number vars (tag_of cell start before behind)) ≡ true). inl (are_dots cell start before behind dots))
        (λ (some : Occurs g (drop first leaves) vars x (parts_found on cell start before behind first)). inr (record { first = first; past = past; is = refl; occurs = some }))
        (rest_occurs g (drop first leaves) vars x (tag_of cell start before behind) left (parts_at g leaves shapes readings on (tag_of cell start before behind) first) (kind_of shapes cell)
        (sym (ap (λ b. is_rest x (body_rest b)) (body-Content g leaves shapes readings vars tokens left on (tag_of cell start before behind) first past)) ∙ e))

  -- what the parts of a content tell is told in the content
  pub in_content : (on : Stands) (cell start : ℕ) (before behind : Bool) (first : ℕ) (o : Occurrence) → Has (parts_found on cell start before behind first) o
      → Has (content_occurrences g leaves shapes readings on (tag_of cell start before behind) first) o
  in_content on cell start before behind first o h =
      let tag = tag_of cell start before behind in
      let sort = whole_sort (kind_of shapes cell) in
      has_left (dots_before tag sort (is_left on) ++ parts_found on cell start before behind first) (dots_behind tag sort (is_left on)) o
      (has_right (dots_before tag sort (is_left on)) (parts_found on cell start before behind first) o h)

  -- in a condition it occurs there
  pub in_condition : (condition : Option Condition) → list_any (cond_mentions x) (when_of g leaves vars condition) ≡ true → (o : Occurrence) × Has (condition_occurrences g leaves condition) o × (x ≡ number_of vars o.home)
  in_condition None e = absurd (let f : false ≡ true = e in cc)
  in_condition (Some condition) e =
      let o = term_occurs g (drop condition.first leaves) vars x false sort_bool false condition.shape (only (mentions x _) e) in
      (o.one, o.has, o.number)
    where
      only : (b : Bool) → (b || false) ≡ true → b ≡ true
      only true e = refl
      only false e = e
