-- The cells of what is read of a rule are of their declared kinds, and their single values of the cells' sorts.
use Rattle.std.proofs.Common.{◌≡◌, inl, inr, ℕ, ◌<◌, ◌≤◌, Bool, true, false, List, [], ◌++◌, drop, filter, length, Option, Some, None, refl, sym, ap, subst, ◌∙◌, Contains, arith}
use Rattle.std.proofs.lemmas.List.{length-map}
use Rattle.std.specs.Prelude.{slice_get}
use Rattle.std.specs.Option.{option_map_or}
use Rattle.std.specs.List.{AllByRecursion, flat_map}
use Rattle.k_terms.specs.Sorts.{SortOrder}
use Rattle.grammar_terms.specs.Builtins.{with_builtins}
use Rattle.grammar_terms.specs.declared.shape.Shape.{Shape}
use Rattle.grammar_terms.specs.declared.word.Word.{Word}
use Rattle.grammar_terms.specs.Grammar.{Syntax}
use Rattle.sorted_grammar.specs.Marks.{AreInside}
use Rattle.live_config.proofs.Members.{Has, has_either, contains-has, kept, map_has}
use Rattle.rule_terms.specs.declared.defs.CellShape.{CellShape}
use Rattle.rule_terms.specs.declared.defs.Kind.{Kind}
use Rattle.rule_terms.specs.declared.defs.Kind.TheVariants.{Cells as CellsKind, Seq as SeqKind, Map as MapKind, List as ListKind, One as OneKind}
use Rattle.rule_terms.specs.declared.pattern.Body.{Body, Cells as CellsBody}
use Rattle.rule_terms.specs.declared.pattern.CellPat.{CellPat}
use Rattle.rule_terms.specs.declared.rule.Draft.{Draft}
use Rattle.rule_terms.specs.Sound.{has_cells}
use Rattle.rule_terms.specs.Spots.{Spot}
use Rattle.rule_cells.specs.declared.form.Inside.{Inside, Cells as CellsInside, Content as ContentInside}
use Rattle.rule_cells.specs.Written.{is_of_cells}
use Rattle.rule_tokens.specs.Variables.{variables, AreSorts}
use Rattle.rule_parts.specs.declared.leaves.Leaf.{Leaf as LeafToken}
use Rattle.rule_parts.specs.declared.parts.Part.{Part}
use Rattle.rule_parts.specs.declared.parts.Side.{Side as Stands}
use Rattle.rule_parts.specs.declared.terms.Occurrence.{Occurrence}
use Rattle.rule_parts.specs.Parts.{form_parts}
use Rattle.rule_parts.specs.Productions.{productions_of}
use Rattle.rule_parts.specs.Sides.{is_left, stands, whole_sort, what_items, of_side}
use Rattle.rule_drafts.specs.declared.reading.Reading.{Reading}
use Rattle.rule_drafts.specs.Bodies.{dots_before, dots_behind, dots_number, is_filled, nested_faults}
use Rattle.rule_drafts.specs.Cells.{kind_of, tag_of, reading_at, parts_of, first_token, event_occurrences, inside_events, side_faults_at, content_faults, event_faults, content_body, body_events, inside_body, all_cells}
use Rattle.rule_drafts.specs.Drafts.{draft_by}
use Rattle.rule_drafts.proofs.ItemLayers.{events-Content, body-Cells, body-Content}
use Rattle.rule_reader.specs.Contents.{cell_k}
use Rattle.rule_reader.specs.Places.{between}
use Rattle.strictness.specs.SoundDrafts.{spots_of}
use Rattle.cell_trees.specs.Trees.{Tree as Declaration, IsTree}
use Rattle.draft_laws.proofs.CellK.{k_plain}
use Rattle.draft_laws.proofs.WrittenCells.{TextCell, has_cells_in, HoldsAsDeclared}
use Rattle.draft_laws.proofs.Sides.{is_on, spot_of, pictures}
use Rattle.sound_sequences.proofs.Told.{IsSettled, AreSettled}
use Rattle.sound_sequences.proofs.Terms.{left_of_all, right_of_all}
use Rattle.sound_sequences.proofs.Follows.{all_member, both_all, IsOfVariable}
use Rattle.sound_sequences.proofs.TextEvents.{IsPartOf, part_all}
use Rattle.sound_sequences.proofs.TextOccurrences.{found_by as content_found}
use Rattle.sound_sequences.proofs.ReadContents.{HasReading}
use Rattle.sound_sequences.proofs.RuleVariables.{front_empty, IsRead, all_words, leaves, text_cells, cells, reads, cell_told, formed, IsSettling, body_settles}
use Rattle.sound_sequences.proofs.RuleBodies.{part_empty}
use Rattle.sound_patterns.proofs.Faults.{none_nested}
use Rattle.sound_patterns.proofs.Parts.{NoneNested}
use Rattle.sound_patterns.proofs.Grammars.{declared_length, declared_stay}
use Rattle.sound_kinds.specs.Literals.{DeclaresLiterals}
use Rattle.sound_kinds.proofs.BaseSorts.{IsBase, AreOwn}
use Rattle.sound_kinds.proofs.ValueShapes.{IsValue}
use Rattle.sound_kinds.proofs.ValueNames.{AreSorted}
use Rattle.sound_kinds.proofs.ValueWords.{AreGood, words_good, between_good, between_leaves}
use Rattle.sound_kinds.proofs.ValueRoles.{item_want, made_want, AreRight}
use Rattle.sound_kinds.proofs.ValueContents.{content_right, content_single}
use Rattle.sound_kinds.proofs.ValueLiterals.{single_base, want_one, made_high}
use Rattle.sound_kinds.proofs.KindBodies.{IsKindBody, kind_body}

module _ (base : Syntax) (inside : AreInside base) (whole : base.declared ≤ length base.prods) (own : AreOwn base.prods) (d : Declaration) (draft : Draft) (tree : IsTree d)
    (literals : DeclaresLiterals d) (read : IsRead d (with_builtins base) draft) (sorted : AreSorted (length base.names) read.tokens) (are_sorts : AreSorts (variables read.tokens) read.sorts)
    (o : SortOrder) where
  abbrev g : Syntax
  g = with_builtins base

  abbrev readings : List Reading
  readings = read.reading.contents

  abbrev tokens_leaves : List LeafToken
  tokens_leaves = leaves d g draft read

  count_is : length (productions_of g).arguments ≡ length g.prods
  count_is = length-map g.prods _

  declared_is : (productions_of g).declared ≡ base.declared
  declared_is = ap length (declared_stay base inside whole _) ∙ declared_length base inside whole

  abbrev pub IsKind : Kind → Body → Type 0
  IsKind kind body = IsKindBody o (let made : Draft = draft_by (cell_k d.shapes) (productions_of g) tokens_leaves d.shapes read.tokens read.reading read.vars in made.vars) kind body

  -- ---- a content

  module _ (on : Stands) (cell start first past : ℕ) (l r : Bool) (found : HasReading g d.shapes (all_words d g draft read) readings on cell (ContentInside first past))
      (none : content_faults (productions_of g) tokens_leaves d.shapes readings read.vars on (tag_of cell start l r) first ≡ [])
      (settled : AreSettled read.vars (content_found (productions_of g) tokens_leaves d.shapes readings on cell start l r (ContentInside first past))) where
    abbrev kind : Kind
    kind = kind_of d.shapes cell

    abbrev words : List Word
    words = between (all_words d g draft read) first past

    named : (sort : ℕ) → kind ≡ OneKind sort → sort < length base.names
    named sort e = let low = (single_base d tree literals cell sort e).high in let some = inside.some in omega (arith, low, some)

    items_base : (sort : ℕ) → item_want kind ≡ Some sort → IsBase sort
    items_base sort e = single_base d tree literals cell sort (want_one kind sort e)

    made_base : (sort : ℕ) → made_want kind ≡ Some sort → IsBase sort
    made_base sort e = made_high kind sort e

    abbrev parts : ℕ → List (Part Shape)
    parts count = parts_of kind count on (reading_at readings first)

    abbrev faults_on : Bool → List ℕ
    faults_on left = side_faults_at (productions_of g) tokens_leaves d.shapes readings read.vars left on (tag_of cell start l r) first

    abbrev nested : List ℕ
    nested = nested_faults (drop first tokens_leaves) (first_token (tag_of cell start l r) first) (parts (length (productions_of g).arguments))

    parts_are : parts (length (productions_of g).arguments) ≡ form_parts kind (length g.prods) on found.reading.form found.reading.shape
    parts_are = ap parts count_is ∙ ap (parts_of kind (length g.prods) on) found.there

    no_nested : NoneNested (form_parts kind (length g.prods) on found.reading.form found.reading.shape)
    no_nested =
        none_nested (drop first tokens_leaves) (first_token (tag_of cell start l r) first) (form_parts kind (length g.prods) on found.reading.form found.reading.shape)
        (ap (nested_faults (drop first tokens_leaves) (first_token (tag_of cell start l r) first)) (sym parts_are)
        ∙ front_empty nested (faults_on true) (front_empty (nested ++ faults_on true) (faults_on false) none))

    good : AreGood (length base.names) words
    good = between_good (length base.names) (all_words d g draft read) first past (words_good (length base.names) read.tokens read.sorts sorted are_sorts)

    abbrev RightAt : ℕ → List (Part Shape) → Type 0
    RightAt declared ps = AreRight (λ sort shape. IsValue words declared sort shape) kind (length base.names) (length g.prods) items_base made_base ps

    right : RightAt (productions_of g).declared (parts (length (productions_of g).arguments))
    right =
        subst (λ declared. RightAt declared (parts (length (productions_of g).arguments))) (sym declared_is)
        (subst (RightAt base.declared) (sym parts_are)
        (content_right base inside whole own words kind named items_base made_base _ on found.reading.form found.reading.shape found.is.is))

    single_on : (left : Bool) → stands left on ≡ true → (sort : ℕ) → kind ≡ OneKind sort
        → is_filled (of_side left (what_items (productions_of g) (drop first tokens_leaves) read.vars sort) (parts (length (productions_of g).arguments))) ≡ true
    single_on left here sort e =
        subst (λ ps. is_filled (of_side left (what_items (productions_of g) (drop first tokens_leaves) read.vars sort) ps) ≡ true) (sym parts_are)
        (content_single base inside whole own words good (productions_of g) (drop first tokens_leaves) read.vars kind sort e (single_base d tree literals cell sort e) _ on
        found.reading.form found.reading.shape found.is.is no_nested left here)

    pub content_kind : (left : Bool) → stands left on ≡ true
        → IsKind kind (content_body (productions_of g) tokens_leaves d.shapes readings read.vars left on (tag_of cell start l r) first)
    content_kind left here =
        kind_body (length base.names) read.tokens words (drop first tokens_leaves) good (between_leaves read.tokens (all_words d g draft read) first past) (productions_of g) read.vars o
        (tag_of cell start l r) left kind (length base.names) (length g.prods) (parts (length (productions_of g).arguments))
        (record { items_base = items_base; made_base = made_base; right = right; settled = settled; single = single_on left here })

  -- ---- cells

  settled_in : (on : Stands) (cell start first past : ℕ) (l r : Bool)
      → IsPartOf (inside_events on (tag_of cell start l r) (ContentInside first past)) (body_events (cell_k d.shapes) read.reading.body)
      → AllByRecursion (IsOfVariable (all_words d g draft read)) (content_found (productions_of g) tokens_leaves d.shapes readings on cell start l r (ContentInside first past))
      → AreSettled read.vars (content_found (productions_of g) tokens_leaves d.shapes readings on cell start l r (ContentInside first past))
  settled_in on cell start first past l r part told =
      let F = event_occurrences (productions_of g) tokens_leaves d.shapes readings in
      let found = content_found (productions_of g) tokens_leaves d.shapes readings on cell start l r (ContentInside first past) in
      let before : List Occurrence = dots_before (tag_of cell start l r) (whole_sort (kind_of d.shapes cell)) (is_left on) in
      let behind : List Occurrence = dots_behind (tag_of cell start l r) (whole_sort (kind_of d.shapes cell)) (is_left on) in
      let here : AllByRecursion (IsSettling d g draft read) (((before ++ found) ++ behind) ++ []) =
      subst (λ events. AllByRecursion (IsSettling d g draft read) (flat_map F events)) (events-Content on (tag_of cell start l r) first past)
      (part_all (IsSettling d g draft read) F (inside_events on (tag_of cell start l r) (ContentInside first past)) (body_events (cell_k d.shapes) read.reading.body) part (body_settles d g draft read)) in
      both_all (IsSettling d g draft read) (IsOfVariable (all_words d g draft read)) (IsSettled read.vars) (λ it to is. to is) found
      (right_of_all (IsSettling d g draft read) before found
      (left_of_all (IsSettling d g draft read) (before ++ found) behind (left_of_all (IsSettling d g draft read) ((before ++ found) ++ behind) [] here))) told

  formed_in : (on : Stands) (cell start first past : ℕ) (l r : Bool)
      → IsPartOf (inside_events on (tag_of cell start l r) (ContentInside first past)) (body_events (cell_k d.shapes) read.reading.body)
      → content_faults (productions_of g) tokens_leaves d.shapes readings read.vars on (tag_of cell start l r) first ≡ []
  formed_in on cell start first past l r part =
      let F = event_faults (productions_of g) tokens_leaves d.shapes readings read.vars in
      let here : flat_map F (inside_events on (tag_of cell start l r) (ContentInside first past)) ≡ [] =
      part_empty F (inside_events on (tag_of cell start l r) (ContentInside first past)) (body_events (cell_k d.shapes) read.reading.body) part (formed d g draft read) in
      front_empty (content_faults (productions_of g) tokens_leaves d.shapes readings read.vars on (tag_of cell start l r) first) []
      (ap (flat_map F) (sym (events-Content on (tag_of cell start l r) first past)) ∙ here)

  cells_kind : (k : Kind) → has_cells k ≡ true → k ≡ CellsKind
  cells_kind CellsKind e = refl
  cells_kind SeqKind e = absurd (let f : false ≡ true = e in cc)
  cells_kind MapKind e = absurd (let f : false ≡ true = e in cc)
  cells_kind ListKind e = absurd (let f : false ≡ true = e in cc)
  cells_kind (OneKind sort) e = absurd (let f : false ≡ true = e in cc)

  shape_kind : (found : Option CellShape) → option_map_or (λ (shape : CellShape). has_cells shape.kind) found false ≡ true
      → option_map_or (λ (shape : CellShape). shape.kind) found CellsKind ≡ CellsKind
  shape_kind None e = refl
  shape_kind (Some shape) e = cells_kind shape.kind e

  no_cells : (cells : List CellPat) (rest : Option ℕ) → IsKind CellsKind (CellsBody cells rest)
  no_cells cells rest = record { kind_is = refl; value = λ q sort is kind_is. absurd (let f : CellsKind ≡ OneKind sort = kind_is in cc) }

  by_inside : (left : Bool) (on : Stands) (cell start : ℕ) (l r : Bool) (within : Inside) → HasReading g d.shapes (all_words d g draft read) readings on cell within
      → stands left on ≡ true → IsPartOf (inside_events on (tag_of cell start l r) within) (body_events (cell_k d.shapes) read.reading.body)
      → AllByRecursion (IsOfVariable (all_words d g draft read)) (content_found (productions_of g) tokens_leaves d.shapes readings on cell start l r within)
      → is_of_cells d.shapes cell ≡ has_cells_in within
      → IsKind (kind_of d.shapes cell) (inside_body (productions_of g) tokens_leaves d.shapes readings read.vars read.tokens left on (tag_of cell start l r) within)
  by_inside left on cell start l r (CellsInside side) found here part told holds =
      subst (IsKind (kind_of d.shapes cell)) (sym (body-Cells (productions_of g) tokens_leaves d.shapes readings read.vars read.tokens left on (tag_of cell start l r) side))
      (subst (λ k. IsKind k (CellsBody (all_cells (productions_of g) tokens_leaves d.shapes readings read.vars read.tokens left on side) (dots_number read.vars (tag_of cell start l r))))
      (sym (shape_kind (slice_get d.shapes cell) holds))
      (no_cells (all_cells (productions_of g) tokens_leaves d.shapes readings read.vars read.tokens left on side) (dots_number read.vars (tag_of cell start l r))))
  by_inside left on cell start l r (ContentInside first past) found here part told holds =
      subst (IsKind (kind_of d.shapes cell)) (sym (body-Content (productions_of g) tokens_leaves d.shapes readings read.vars read.tokens left on (tag_of cell start l r) first past))
      (content_kind on cell start first past l r found (formed_in on cell start first past l r part) (settled_in on cell start first past l r part told) left here)

  abbrev picture : Bool → TextCell → Spot
  picture left one = spot_of (productions_of g) tokens_leaves d.shapes readings read.vars read.tokens left one

  cell_kind : (left : Bool) (one : TextCell) → Has (cells d g draft read) one → is_on left one ≡ true → IsKind (kind_of d.shapes one.held.cell) (picture left one).body
  cell_kind left one h here =
      by_inside left one.on one.held.cell one.held.start one.held.left_dots one.held.right_dots one.held.inside (reads d g draft read one h) here
      ((text_cells d g draft read).1.lies one h).is (cell_told d g draft read one)
      (all_member (HoldsAsDeclared d.shapes) (cells d g draft read) one ((text_cells d g draft read).1.held (k_plain d tree)) h)

  -- ---- sides

  abbrev pictures_on : Bool → List Spot
  pictures_on left = pictures (productions_of g) tokens_leaves d.shapes readings read.vars read.tokens left (cells d g draft read)

  abbrev IsKindSpot : Spot → Type 0
  IsKindSpot p = IsKind (kind_of d.shapes p.cell) p.body

  spot_kind : (left : Bool) (p : Spot) → Has (pictures_on left) p → IsKindSpot p
  spot_kind left p h =
      let t = map_has (picture left) (filter (is_on left) (cells d g draft read)) p h in
      let k = kept (is_on left) (cells d g draft read) t.0 t.1 in
      subst IsKindSpot t.2 (cell_kind left t.0 k.0 k.1)

  abbrev made : Draft
  made = draft_by (cell_k d.shapes) (productions_of g) tokens_leaves d.shapes read.tokens read.reading read.vars

  made_kinds : (p : Spot) → Contains (spots_of made.left ++ spots_of made.right) p → IsKindSpot p
  made_kinds p has =
      elim (has_either (spots_of made.left) (spots_of made.right) p (contains-has (spots_of made.left ++ spots_of made.right) p has)) [
        | inl h ↦ spot_kind true p (subst (λ ps. Has ps p) (text_cells d g draft read).1.left h)
        | inr h ↦ spot_kind false p (subst (λ ps. Has ps p) (text_cells d g draft read).1.right h)
      ]

  -- each cell of a side is of its kind
  pub draft_kinds : (p : Spot) → Contains (spots_of draft.left ++ spots_of draft.right) p → IsKindBody o draft.vars (kind_of d.shapes p.cell) p.body
  draft_kinds =
      subst (λ (it : Draft). (p : Spot) → Contains (spots_of it.left ++ spots_of it.right) p → IsKindBody o it.vars (kind_of d.shapes p.cell) p.body) (sym read.is) made_kinds
