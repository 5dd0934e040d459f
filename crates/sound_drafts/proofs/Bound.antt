-- Each variable of a draft that was read stands on the left.
use Rattle.std.proofs.Common.{◌≡◌, inl, inr, ⊎_elim, ℕ, ◌<◌, Bool, true, false, cond, not, ◌==◌, ◌||◌, ◌&&◌, [], ◌∷◌, ◌++◌, length, map, filter, Option, Some, None, refl, sym, ap, subst, ◌∙◌}
use Rattle.std.proofs.lemmas.Bool.{eqb-true, eq-eqb, and_parts}
use Rattle.std.proofs.lemmas.List.{length-map}
use Rattle.std.specs.Prelude.{IsTrue, slice_get}
use Rattle.std.specs.Option.{option_map_or}
use Rattle.std.specs.List.{flat_map}
use Rattle.grammar_terms.specs.Grammar.{Syntax}
use Rattle.grammar_terms.specs.declared.shape.Shape.{Shape}
use Rattle.live_config.proofs.Members.{Has, has_left, has_either, any_has, has_any, has_map, keeps, has-contains, Apart}
use Rattle.rule_terms.specs.declared.defs.CellShape.{CellShape}
use Rattle.rule_terms.specs.declared.defs.Kind.TheVariants.{Cells as CellsKind}
use Rattle.rule_terms.specs.declared.pattern.Body.{Body}
use Rattle.rule_terms.specs.declared.rule.Draft.{Draft}
use Rattle.rule_terms.specs.Patterns.{is_rest}
use Rattle.rule_terms.specs.Sound.{has_cells, body_mentions, side_mentions}
use Rattle.rule_terms.specs.Spots.{Spot}
use Rattle.rule_cells.specs.declared.form.Inside.{Inside, Cells as CellsInside, Content as ContentInside}
use Rattle.rule_contents.specs.Contents.{with_content}
use Rattle.rule_parts.specs.declared.parts.Side.{Side as Stands}
use Rattle.rule_parts.specs.declared.terms.Occurrence.{Occurrence}
use Rattle.rule_parts.specs.Terms.{number_of}
use Rattle.rule_parts.specs.Sides.{is_left, stands, whole_sort, part_occurrences}
use Rattle.rule_parts.specs.Productions.{productions_of}
use Rattle.rule_drafts.specs.Bodies.{dots_before, dots_behind, body_of}
use Rattle.rule_drafts.specs.Cells.{kind_of, tag_of, inside_body}
use Rattle.rule_drafts.specs.Drafts.{condition_occurrences}
use Rattle.rule_drafts.proofs.ItemLayers.{body-Cells, body-Content}
use Rattle.cell_trees.specs.Trees.{Tree as Declaration, IsTree}
use Rattle.strictness.specs.SoundDrafts.{spots_of}
use Rattle.draft_laws.proofs.WrittenCells.{TextCell, HoldsAsDeclared, has_cells_in}
use Rattle.draft_laws.proofs.Sides.{is_on, spot_of}
use Rattle.sound_drafts.proofs.Numbers.{was_found}
use Rattle.sound_drafts.proofs.Numbering.{variables_apart, number_is}
use Rattle.sound_drafts.proofs.TextEvents.{told_in, IsOfCells, IsDotsOf, IsInContentOf}
use Rattle.sound_drafts.proofs.TextCells.{text}
use Rattle.sound_drafts.proofs.Dots.{cells, leaves, body_found, all_found, each_of, bound_there, left_are}
use Rattle.sound_drafts.proofs.Declared.{declared, there}
use Rattle.sound_drafts.proofs.Lefts.{IsOfPart, of_part, condition_right}
use Rattle.sound_drafts.proofs.ListRests.{rests_in_lists, child_rested}
use Rattle.sound_drafts.proofs.Occurred.{its_number}
use Rattle.sound_drafts.proofs.PartsUp.{stands_in}
use Rattle.sound_drafts.proofs.ContentSorts.{HasSorts}
use Rattle.sound_drafts.proofs.SingleContents.{single}
use Rattle.sound_drafts.proofs.BodiesUp.{stands_up, dots_up}
use Rattle.sound_drafts.proofs.RightParts.{part_within}
use Rattle.sound_drafts.proofs.ReadParts.{ReadAt}
use Rattle.sound_drafts.proofs.ReadRules.{IsRead, content_read}
use Rattle.sound_drafts.proofs.ContentParts.{its_kind, its_words, its_leaves, its_parts, form_fits, parts_are, parts_read}

-- ---- dots

cond_has : (b : Bool) (one o : Occurrence) → Has (cond b (one ∷ []) []) o → (b ≡ true) × (o ≡ one)
cond_has true one o (inl e) = (refl, sym e)
cond_has true one o (inr none) = absurd none
cond_has false one o h = absurd h

either_dots : (l r : Bool) → (r && not l) ≡ true → (l || r) ≡ true
either_dots true r e = refl
either_dots false true e = refl
either_dots false false e = absurd (let f : false ≡ true = e in cc)

first_dots : (l r : Bool) → l ≡ true → (l || r) ≡ true
first_dots true r e = refl
first_dots false r e = absurd (let f : false ≡ true = e in cc)

or_last : (a b : Bool) → b ≡ true → (a || b) ≡ true
or_last true b e = refl
or_last false b e = e

dots_rest : (x : ℕ) (b : Bool) (n : ℕ) → b ≡ true → x ≡ n → is_rest x (cond b (Some n) None) ≡ true
dots_rest x true n e is = eq-eqb x n is
dots_rest x false n e is = absurd (let f : false ≡ true = e in cc)

stands_left : (on : Stands) → is_left on ≡ true → stands true on ≡ true
stands_left on e = e

-- ---- kinds

kind_found : (found : Option CellShape) (shape : CellShape) → found ≡ Some shape → option_map_or (λ (s : CellShape). s.kind) found CellsKind ≡ shape.kind
kind_found None shape e = absurd (let f : None ≡ Some shape = e in cc)
kind_found (Some other) shape e = let same : other ≡ shape = cc in ap (λ (s : CellShape). s.kind) same

cells_found : (found : Option CellShape) (shape : CellShape) → found ≡ Some shape → option_map_or (λ (s : CellShape). has_cells s.kind) found false ≡ has_cells shape.kind
cells_found None shape e = absurd (let f : None ≡ Some shape = e in cc)
cells_found (Some other) shape e = let same : other ≡ shape = cc in ap (λ (s : CellShape). has_cells s.kind) same

module _ (d : Declaration) (g : Syntax) (draft : Draft) (tree : IsTree d) (read : IsRead d g draft) (sorts : HasSorts g) where
  -- a cell of the text as a cell of the left
  abbrev left_spot : TextCell → Spot
  left_spot one = spot_of (productions_of g) (leaves d g draft tree read.made) d.shapes read.made.reading.contents read.made.vars read.made.tokens true one

  on_left : (one : TextCell) → Has (cells d g draft tree read.made) one → is_on true one ≡ true → Has (spots_of draft.left) (left_spot one)
  on_left one has on =
      subst (λ ps. Has ps (left_spot one)) (sym (left_are d g draft tree read.made))
      (has_map left_spot (filter (is_on true) (cells d g draft tree read.made)) one (keeps (is_on true) (cells d g draft tree read.made) one has on))

  mentioned : (x : ℕ) (one : TextCell) → Has (cells d g draft tree read.made) one → is_on true one ≡ true → body_mentions x (left_spot one).body ≡ true → side_mentions x (spots_of draft.left) ≡ true
  mentioned x one has on e = has_any (λ (p : Spot). body_mentions x p.body) (spots_of draft.left) (left_spot one) (on_left one has on) e

  -- a content is of no cell of cells
  pub not_cells : (left : Bool) (one : TextCell) (first past : ℕ) → Has (cells d g draft tree read.made) one → one.held.inside ≡ ContentInside first past → (shape : CellShape) → slice_get d.shapes one.held.cell ≡ Some shape
      → kind_of d.shapes one.held.cell ≡ CellsKind → ⊥
  not_cells left one first past has is shape found e =
      let held = each_of (HoldsAsDeclared d.shapes) (cells d g draft tree read.made) one (text d g draft tree read.made).1.held has in
      let kind : shape.kind ≡ CellsKind = sym (kind_found (slice_get d.shapes one.held.cell) shape found) ∙ e in
      absurd (let f : true ≡ false = sym (cells_found (slice_get d.shapes one.held.cell) shape found ∙ ap has_cells kind) ∙ held ∙ ap has_cells_in is in cc)

  -- ---- a rest of cells

  cells_mention : (x : ℕ) (one : TextCell) (inside : Inside) → one.held.inside ≡ inside → has_cells_in inside ≡ true → (one.held.left_dots || one.held.right_dots) ≡ true → x ≡ number_of read.made.vars one.held.start
      → body_mentions x (left_spot one).body ≡ true
  cells_mention x one (CellsInside inner) is holds dots number =
      let tag = tag_of one.held.cell one.held.start one.held.left_dots one.held.right_dots in
      let body = inside_body (productions_of g) (leaves d g draft tree read.made) d.shapes read.made.reading.contents read.made.vars read.made.tokens true one.on tag in
      ap (λ (i : Inside). body_mentions x (body i)) is
      ∙ ap (body_mentions x) (body-Cells (productions_of g) (leaves d g draft tree read.made) d.shapes read.made.reading.contents read.made.vars read.made.tokens true one.on tag inner)
      ∙ dots_rest x (one.held.left_dots || one.held.right_dots) (number_of read.made.vars one.held.start) dots number
  cells_mention x one (ContentInside first past) is holds dots number = absurd (let f : false ≡ true = holds in cc)

  dots_mentioned : (o : Occurrence) → IsDotsOf (cells d g draft tree read.made) o → o.is_left ≡ true → side_mentions (its_number read.made.vars o) (spots_of draft.left) ≡ true
  dots_mentioned o it left =
      mentioned (its_number read.made.vars o) it.one it.has (sym it.left ∙ left)
      (cells_mention (its_number read.made.vars o) it.one it.one.held.inside refl it.holds it.dots (ap (number_of read.made.vars) it.home))

  -- ---- a content

  module _ (one : TextCell) (first past : ℕ) (has : Has (cells d g draft tree read.made) one) (is : one.held.inside ≡ ContentInside first past) where
    abbrev Read : ℕ → Shape → Type 0
    Read = ReadAt g (its_kind d g draft tree read one first past has is) (its_words d g draft tree read one first past has is)

    rested : (sort : ℕ) (shape : Shape) → Read sort shape → rests_in_lists shape ≡ true
    rested sort shape it = child_rested (with_content g (its_kind d g draft tree read one first past has is)) (its_words d g draft tree read one first past has is) it.child

    abbrev its_body : Body
    its_body =
        body_of (productions_of g) (its_leaves d g draft tree read one first past has is) read.made.vars (tag_of one.held.cell one.held.start one.held.left_dots one.held.right_dots) true
        (its_parts d g draft tree read one first past has is) (its_kind d g draft tree read one first past has is)

    body_is : (left_spot one).body ≡ its_body
    body_is =
        let tag = tag_of one.held.cell one.held.start one.held.left_dots one.held.right_dots in
        ap (inside_body (productions_of g) (leaves d g draft tree read.made) d.shapes read.made.reading.contents read.made.vars read.made.tokens true one.on tag) is
        ∙ body-Content (productions_of g) (leaves d g draft tree read.made) d.shapes read.made.reading.contents read.made.vars read.made.tokens true one.on tag first past

    -- the rest of its `...`
    own_dots : (o : Occurrence) → o.home ≡ one.held.start → is_left one.on ≡ true → (one.held.left_dots || one.held.right_dots) ≡ true → side_mentions (its_number read.made.vars o) (spots_of draft.left) ≡ true
    own_dots o home left dots =
        let found = declared d g draft tree read.made (left_spot one)
        (has-contains (spots_of draft.left ++ spots_of draft.right) (left_spot one) (has_left (spots_of draft.left) (spots_of draft.right) (left_spot one) (on_left one has (stands_left one.on left)))) in
        mentioned (its_number read.made.vars o) one has (stands_left one.on left)
        (ap (body_mentions (its_number read.made.vars o)) body_is
        ∙ dots_up (productions_of g) (its_leaves d g draft tree read one first past has is) read.made.vars (length g.prods) Read rested one.held.cell one.held.start one.held.left_dots one.held.right_dots
        (its_parts d g draft tree read one first past has is) (its_number read.made.vars o) (its_kind d g draft tree read one first past has is)
        (parts_read d g draft tree read one first past has is) (form_fits d g draft tree read one first past has is (stands_left one.on left))
        (not_cells true one first past has is found.0 found.1) dots (ap (number_of read.made.vars) home))

    -- what is told in its parts
    own_parts : (o : Occurrence) → IsOfPart (productions_of g) (its_leaves d g draft tree read one first past has is) (its_kind d g draft tree read one first past has is) (its_parts d g draft tree read one first past has is) o
        → o.is_left ≡ true → side_mentions (its_number read.made.vars o) (spots_of draft.left) ≡ true
    own_parts o of left =
        let reading = (content_read d g draft tree read one first past has is).reading in
        let on : is_left one.on ≡ true =
        part_within (its_kind d g draft tree read one first past has is) (length g.prods) one.on reading.form reading.shape of.part
        (subst (λ ps. Has ps of.part) (parts_are d g draft tree read one first past has is) of.has) (sym of.left ∙ left) in
        mentioned (its_number read.made.vars o) one has (stands_left one.on on)
        (ap (body_mentions (its_number read.made.vars o)) body_is
        ∙ stands_up (productions_of g) (its_leaves d g draft tree read one first past has is) read.made.vars (length g.prods) Read rested one.held.cell one.held.start one.held.left_dots one.held.right_dots
        (its_parts d g draft tree read one first past has is) o (its_kind d g draft tree read one first past has is)
        (parts_read d g draft tree read one first past has is) (form_fits d g draft tree read one first past has is (stands_left one.on on)) (single d g draft tree read sorts one first past has is true)
        (stands_in (productions_of g) (its_leaves d g draft tree read one first past has is) read.made.vars (length g.prods) Read rested (its_parts d g draft tree read one first past has is) o
        (its_kind d g draft tree read one first past has is) (parts_read d g draft tree read one first past has is) of left))

    content_mentioned : (o : Occurrence) → Has (told_in (productions_of g) (leaves d g draft tree read.made) d.shapes read.made.reading.contents one first) o → o.is_left ≡ true
        → side_mentions (its_number read.made.vars o) (spots_of draft.left) ≡ true
    content_mentioned o h left =
        let tag = tag_of one.held.cell one.held.start one.held.left_dots one.held.right_dots in
        let sort = whole_sort (its_kind d g draft tree read one first past has is) in
        let dots : Occurrence = record { at = one.held.start; home = one.held.start; sort = sort; is_left = is_left one.on; is_stray = false } in
        let parts = flat_map (part_occurrences (productions_of g) (its_leaves d g draft tree read one first past has is) (its_kind d g draft tree read one first past has is))
        (its_parts d g draft tree read one first past has is) in
        let by_dots : o ≡ dots → (one.held.left_dots || one.held.right_dots) ≡ true → side_mentions (its_number read.made.vars o) (spots_of draft.left) ≡ true =
        λ same some. own_dots o (ap (λ (v : Occurrence). v.home) same) (sym (ap (λ (v : Occurrence). v.is_left) same) ∙ left) some in
        ⊎_elim
        (λ (front : Has (dots_before tag sort (is_left one.on) ++ parts) o).
        ⊎_elim
        (λ (before : Has (dots_before tag sort (is_left one.on)) o). let c = cond_has one.held.left_dots dots o before in by_dots c.1 (first_dots one.held.left_dots one.held.right_dots c.0))
        (λ (part : Has parts o).
        own_parts o
        (of_part (productions_of g) (its_leaves d g draft tree read one first past has is) (its_kind d g draft tree read one first past has is) (its_parts d g draft tree read one first past has is) o part) left)
        (has_either (dots_before tag sort (is_left one.on)) parts o front))
        (λ (behind : Has (dots_behind tag sort (is_left one.on)) o).
        let c = cond_has (one.held.right_dots && not one.held.left_dots) dots o behind in by_dots c.1 (either_dots one.held.left_dots one.held.right_dots c.0))
        (has_either (dots_before tag sort (is_left one.on) ++ parts) (dots_behind tag sort (is_left one.on)) o h)

  -- ---- all variables

  found_mentioned : (o : Occurrence) → Has (all_found d g draft tree read.made) o → o.is_left ≡ true → side_mentions (its_number read.made.vars o) (spots_of draft.left) ≡ true
  found_mentioned o h left =
      let condition = condition_occurrences (productions_of g) (leaves d g draft tree read.made) read.made.reading.condition in
      elim (has_either (body_found d g draft tree read.made) condition o h) [
        | inr last ↦ absurd (condition_right (productions_of g) (leaves d g draft tree read.made) read.made.reading.condition o last left)
        | inl here ↦ (
            ⊎_elim (λ (dots : IsDotsOf (cells d g draft tree read.made) o). dots_mentioned o dots left)
            (λ (inside : IsInContentOf (productions_of g) (leaves d g draft tree read.made) d.shapes read.made.reading.contents (cells d g draft tree read.made) o).
            content_mentioned inside.one inside.first inside.past inside.has inside.inside_is o inside.there left)
            (each_of (IsOfCells (productions_of g) (leaves d g draft tree read.made) d.shapes read.made.reading.contents (cells d g draft tree read.made))
            (body_found d g draft tree read.made) o (text d g draft tree read.made).1.each here))
      ]

  pub bound : (x : ℕ) → x < length draft.vars → IsTrue (side_mentions x (spots_of draft.left))
  bound x less =
      let vars = read.made.vars in
      let size : length draft.vars ≡ length vars = ap (λ (it : Draft). length it.vars) read.made.is ∙ length-map vars (λ (v : Occurrence). v.sort) in
      let v = there vars x (subst (λ (n : ℕ). x < n) size less) in
      let apart = subst (λ vs. Apart (map (λ (w : Occurrence). w.home) vs)) (sym read.made.are.are) (variables_apart (all_found d g draft tree read.made)) in
      let n = number_is vars x v.0 apart v.1 in
      let found = was_found (all_found d g draft tree read.made) v.0 (subst (λ vs. Has vs v.0) read.made.are.are n.1) in
      let o = any_has (λ (w : Occurrence). w.is_left && w.home == v.0.home) (all_found d g draft tree read.made) (bound_there d g draft tree read.made v.0 found) in
      let parts = and_parts o.0.is_left (o.0.home == v.0.home) o.2 in
      let number : number_of vars o.0.home ≡ x = ap (number_of vars) (eqb-true o.0.home v.0.home parts.1) ∙ n.0 in
      subst (λ (k : ℕ). side_mentions k (spots_of draft.left) ≡ true) number (found_mentioned o.0 o.1 parts.0)
