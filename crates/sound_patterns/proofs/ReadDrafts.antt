-- What is read of a rule has sound values: in its cells and in its conditions.
use Rattle.std.proofs.Common.{◌≡◌, ℕ, ◌<◌, ◌≤◌, Bool, true, false, cond, ◌&&◌, not, List, [], ◌∷◌, ◌++◌, drop, filter, length, Option, Some, None, refl, sym, ap, subst, ◌∙◌, arith}
use Rattle.std.specs.List.{list_all, flat_map}
use Rattle.std.proofs.lemmas.List.{length-map}
use Rattle.k_terms.specs.Sorts.{SortOrder, sort_bool}
use Rattle.grammar_terms.specs.Builtins.{with_builtins}
use Rattle.grammar_terms.specs.declared.shape.Shape.{Shape}
use Rattle.grammar_terms.specs.Grammar.{Syntax, order_of}
use Rattle.sorted_grammar.specs.Marks.{AreInside}
use Rattle.live_config.proofs.Members.{Has, kept, map_has}
use Rattle.rule_terms.specs.declared.defs.Kind.{Kind}
use Rattle.rule_terms.specs.declared.defs.Kind.TheVariants.{One as OneKind}
use Rattle.rule_terms.specs.declared.pattern.Pattern.{Pattern}
use Rattle.rule_terms.specs.declared.pattern.Body.{Body}
use Rattle.rule_terms.specs.declared.rule.Draft.{Draft}
use Rattle.rule_terms.specs.InRange.{is_pattern_in_range}
use Rattle.rule_terms.specs.Sound.{has_formed_values, has_no_operator, all_patterns, condition_test, is_made}
use Rattle.rule_terms.specs.Spots.{Spot}
use Rattle.rule_cells.specs.declared.form.Inside.{Inside, Cells as CellsInside, Content as ContentInside}
use Rattle.rule_contents.specs.declared.reading.Form.TheVariants.{Expression}
use Rattle.rule_contents.specs.Operators.{has_operator}
use Rattle.rule_parts.specs.declared.parts.Part.{Part}
use Rattle.rule_parts.specs.declared.parts.Side.{Side as Stands}
use Rattle.rule_parts.specs.Parts.{form_parts}
use Rattle.rule_parts.specs.Productions.{productions_of}
use Rattle.rule_parts.specs.Sides.{is_left, as_list}
use Rattle.rule_parts.specs.Terms.{pattern_of}
use Rattle.rule_drafts.specs.declared.reading.Condition.{Condition}
use Rattle.rule_drafts.specs.declared.reading.Reading.{Reading}
use Rattle.rule_drafts.specs.Bodies.{body_of, nested_faults, stray_tails, form_faults, is_bad_form, written_rests}
use Rattle.rule_drafts.specs.Cells.{kind_of, tag_of, reading_at, parts_of, operator_at, first_token, inside_events, side_faults_at, content_faults, content_body, event_faults, body_events, inside_body}
use Rattle.rule_drafts.specs.Drafts.{when_of, draft_by}
use Rattle.rule_drafts.proofs.ItemLayers.{events-Content, body-Cells, body-Content}
use Rattle.rule_reader.specs.Contents.{cell_k}
use Rattle.rule_reader.specs.Places.{between}
use Rattle.rule_reader.specs.Readings.{IsConditionAs}
use Rattle.strictness.specs.SoundDrafts.{spots_of}
use Rattle.cell_trees.specs.Trees.{Tree as Declaration, IsTree}
use Rattle.draft_laws.proofs.WrittenCells.{TextCell}
use Rattle.draft_laws.proofs.Sides.{is_on, spot_of, pictures}
use Rattle.sound_sequences.proofs.Fronts.{both_pass}
use Rattle.sound_sequences.proofs.Whats.{all_pass_joined}
use Rattle.sound_sequences.proofs.TextEvents.{IsPartOf}
use Rattle.sound_sequences.proofs.ReadContents.{HasReading}
use Rattle.sound_sequences.proofs.RuleVariables.{front_empty, back_empty, IsRead, all_words, leaves, text_cells, cells, reads, formed}
use Rattle.sound_sequences.proofs.RuleBodies.{all_pass, part_empty}
use Rattle.sound_patterns.specs.Laws.{HasSoundValues}
use Rattle.sound_patterns.proofs.Terms.{AllNumbers, dropped_pass}
use Rattle.sound_patterns.proofs.Literals.{ArePlain}
use Rattle.sound_patterns.proofs.Leaves.{leaves_pass, plain_formed, plain_in_range, plain_no_operator}
use Rattle.sound_patterns.proofs.Readings.{child_term}
use Rattle.sound_patterns.proofs.Grammars.{node, list, rules_terms}
use Rattle.sound_patterns.proofs.Numbers.{values_pass, numbers_pass}
use Rattle.sound_patterns.proofs.SingleSorts.{single_low}
use Rattle.sound_patterns.proofs.Faults.{none_nested, no_item, no_place, no_operator_read}
use Rattle.sound_patterns.proofs.ContentBodies.{IsGoodBody, LiteralsPass, AreGoodParts, parts_good, body_good}

on_that_side : (b : Bool) (xs : List ℕ) → b ≡ true → cond b xs [] ≡ [] → xs ≡ []
on_that_side true xs here e = e
on_that_side false xs here e = absurd (let f : false ≡ true = here in cc)

module _ (base : Syntax) (inside : AreInside base) (whole : base.declared ≤ length base.prods) (d : Declaration) (draft : Draft) (tree : IsTree d)
    (read : IsRead d (with_builtins base) draft) (plain : ArePlain read.tokens) where
  abbrev g : Syntax
  g = with_builtins base

  abbrev o : SortOrder
  o = order_of base

  abbrev readings : List Reading
  readings = read.reading.contents

  count_is : length (productions_of g).arguments ≡ length g.prods
  count_is = length-map g.prods _

  literals : (n : ℕ) → LiteralsPass base inside whole (drop n (leaves d g draft read))
  literals n = record {
    values = dropped_pass has_formed_values n (leaves d g draft read) (leaves_pass has_formed_values plain_formed read.sorts read.tokens plain);
    numbers = dropped_pass (is_pattern_in_range o) n (leaves d g draft read) (leaves_pass (is_pattern_in_range o) (plain_in_range o) read.sorts read.tokens plain);
    operators = dropped_pass has_no_operator n (leaves d g draft read) (leaves_pass has_no_operator plain_no_operator read.sorts read.tokens plain);
  }

  named : (cell sort : ℕ) → kind_of d.shapes cell ≡ OneKind sort → sort < length base.names
  named cell sort e = let low = single_low d tree cell sort e in let some = inside.some in omega (arith, low, some)

  -- ---- a content

  module _ (on : Stands) (cell start first past : ℕ) (l r : Bool) (found : HasReading g d.shapes (all_words d g draft read) readings on cell (ContentInside first past))
      (none : content_faults (productions_of g) (leaves d g draft read) d.shapes readings read.vars on (tag_of cell start l r) first ≡ []) where
    abbrev kind : Kind
    kind = kind_of d.shapes cell

    abbrev faults_on : Bool → List ℕ
    faults_on left = side_faults_at (productions_of g) (leaves d g draft read) d.shapes readings read.vars left on (tag_of cell start l r) first

    abbrev parts : ℕ → List (Part Shape)
    parts count = parts_of kind count on (reading_at readings first)

    abbrev nested : List ℕ
    nested = nested_faults (drop first (leaves d g draft read)) (first_token (tag_of cell start l r) first) (parts (length (productions_of g).arguments))

    parts_are : parts (length (productions_of g).arguments) ≡ form_parts kind (length g.prods) on found.reading.form found.reading.shape
    parts_are = ap parts count_is ∙ ap (parts_of kind (length g.prods) on) found.there

    -- no operator stands on the left
    free : is_left on ≡ true → (found.reading.form ≡ Expression → ⊥) → has_operator g found.reading.shape ≡ false
    free here other =
        let left_faults : faults_on true ≡ [] = back_empty nested (faults_on true) (front_empty (nested ++ faults_on true) (faults_on false) none) in
        let ps = parts (length (productions_of g).arguments) in
        let tails : List ℕ = stray_tails (drop first (leaves d g draft read)) true ps in
        let bad : Bool = is_bad_form read.vars (tag_of cell start l r) (written_rests true ps) kind (body_of (productions_of g) (drop first (leaves d g draft read)) read.vars (tag_of cell start l r) true ps kind) in
        let operator : Option ℕ = operator_at (reading_at readings first) in
        let all : tails ++ form_faults true (first_token (tag_of cell start l r) first) operator bad ≡ [] = on_that_side (is_left on) _ here left_faults in
        let as_item : as_list operator ≡ [] = back_empty (cond bad (first_token (tag_of cell start l r) first ∷ []) []) (as_list operator) (back_empty tails _ all) in
        let no_one : found.reading.operator ≡ None = ap operator_at (sym found.there) ∙ no_item operator as_item in
        no_operator_read g kind found.reading.form _ found.reading.shape found.is.place found.is.place_is
        (no_place first found.is.place (sym found.is.operator_is ∙ no_one)) other

    good_parts : AreGoodParts base inside whole kind (named cell) (between (all_words d g draft read) first past) on (parts (length (productions_of g).arguments))
    good_parts =
        let all = parts_good base inside whole kind (named cell) (between (all_words d g draft read) first past) on found.reading.form found.reading.shape found.is.is free
        (none_nested (drop first (leaves d g draft read)) (first_token (tag_of cell start l r) first) (form_parts kind (length g.prods) on found.reading.form found.reading.shape)
        (ap (nested_faults (drop first (leaves d g draft read)) (first_token (tag_of cell start l r) first)) (sym parts_are)
        ∙ front_empty nested (faults_on true) (front_empty (nested ++ faults_on true) (faults_on false) none))) in
        subst (AreGoodParts base inside whole kind (named cell) (between (all_words d g draft read) first past) on) (sym parts_are) all

    pub content_good : (left : Bool) → IsGoodBody o left (content_body (productions_of g) (leaves d g draft read) d.shapes readings read.vars left on (tag_of cell start l r) first)
    content_good left =
        body_good base inside whole kind (named cell) (between (all_words d g draft read) first past) on (drop first (leaves d g draft read)) (literals first) read.vars cell start l r left
        (parts (length (productions_of g).arguments)) good_parts

  -- ---- cells

  formed_in : (on : Stands) (cell start first past : ℕ) (l r : Bool)
      → IsPartOf (inside_events on (tag_of cell start l r) (ContentInside first past)) (body_events (cell_k d.shapes) read.reading.body)
      → content_faults (productions_of g) (leaves d g draft read) d.shapes readings read.vars on (tag_of cell start l r) first ≡ []
  formed_in on cell start first past l r part =
      let tag = tag_of cell start l r in
      let F = event_faults (productions_of g) (leaves d g draft read) d.shapes readings read.vars in
      let own : flat_map F (inside_events on tag (ContentInside first past)) ≡ [] =
      part_empty F (inside_events on tag (ContentInside first past)) (body_events (cell_k d.shapes) read.reading.body) part (formed d g draft read) in
      front_empty (content_faults (productions_of g) (leaves d g draft read) d.shapes readings read.vars on tag first) []
      (ap (flat_map F) (sym (events-Content on tag first past)) ∙ own)

  by_inside : (left : Bool) (on : Stands) (cell start : ℕ) (l r : Bool) (within : Inside) → HasReading g d.shapes (all_words d g draft read) readings on cell within
      → IsPartOf (inside_events on (tag_of cell start l r) within) (body_events (cell_k d.shapes) read.reading.body)
      → IsGoodBody o left (inside_body (productions_of g) (leaves d g draft read) d.shapes readings read.vars read.tokens left on (tag_of cell start l r) within)
  by_inside left on cell start l r (CellsInside side) found part =
      subst (IsGoodBody o left) (sym (body-Cells (productions_of g) (leaves d g draft read) d.shapes readings read.vars read.tokens left on (tag_of cell start l r) side))
      (record { values = refl; numbers = refl; free = λ e. refl })
  by_inside left on cell start l r (ContentInside first past) found part =
      subst (IsGoodBody o left) (sym (body-Content (productions_of g) (leaves d g draft read) d.shapes readings read.vars read.tokens left on (tag_of cell start l r) first past))
      (content_good on cell start first past l r found (formed_in on cell start first past l r part) left)

  abbrev picture : Bool → TextCell → Spot
  picture left one = spot_of (productions_of g) (leaves d g draft read) d.shapes readings read.vars read.tokens left one

  cell_good : (left : Bool) (one : TextCell) → Has (cells d g draft read) one → IsGoodBody o left (picture left one).body
  cell_good left one h =
      by_inside left one.on one.held.cell one.held.start one.held.left_dots one.held.right_dots one.held.inside (reads d g draft read one h)
      ((text_cells d g draft read).1.lies one h).is

  -- ---- sides

  abbrev pictures_on : Bool → List Spot
  pictures_on left = pictures (productions_of g) (leaves d g draft read) d.shapes readings read.vars read.tokens left (cells d g draft read)

  side_passes : (left : Bool) (test : Body → Bool) → ((body : Body) → IsGoodBody o left body → test body ≡ true) → list_all (λ (p : Spot). test p.body) (pictures_on left) ≡ true
  side_passes left test each =
      all_pass (λ (p : Spot). test p.body) (pictures_on left) (λ p h.
      let t = map_has (picture left) (filter (is_on left) (cells d g draft read)) p h in
      let k = kept (is_on left) (cells d g draft read) t.0 t.1 in
      ap (λ (s : Spot). test s.body) (sym t.2) ∙ each (picture left t.0).body (cell_good left t.0 k.0))

  abbrev made : Draft
  made = draft_by (cell_k d.shapes) (productions_of g) (leaves d g draft read) d.shapes read.tokens read.reading read.vars

  both_pass_there : (test : Body → Bool) → ((left : Bool) (body : Body) → IsGoodBody o left body → test body ≡ true)
      → list_all (λ (p : Spot). test p.body) (spots_of made.left ++ spots_of made.right) ≡ true
  both_pass_there test each =
      (λ i. list_all (λ (p : Spot). test p.body) ((text_cells d g draft read).1.left i ++ (text_cells d g draft read).1.right i))
      ∙ all_pass_joined (λ (p : Spot). test p.body) (pictures_on true) (pictures_on false) (side_passes true test (each true)) (side_passes false test (each false))

  left_free : list_all (λ (p : Spot). all_patterns has_no_operator p.body && not (is_made p.body)) (spots_of made.left) ≡ true
  left_free =
      ap (list_all (λ (p : Spot). all_patterns has_no_operator p.body && not (is_made p.body))) (text_cells d g draft read).1.left
      ∙ side_passes true (λ body. all_patterns has_no_operator body && not (is_made body)) (λ body good. good.free refl)

  -- ---- conditions

  when_passes : (test : Pattern → Bool) (range : Option (ℕ × ℕ)) (condition : Option Condition) → IsConditionAs g (all_words d g draft read) range condition
      → ((n : ℕ) (shape : Shape) → AllNumbers (node base inside whole) (list base inside whole) shape
      → test (pattern_of (productions_of g) (drop n (leaves d g draft read)) read.vars sort_bool shape) ≡ true)
      → list_all (condition_test test) (when_of (productions_of g) (leaves d g draft read) read.vars condition) ≡ true
  when_passes test range None is each = refl
  when_passes test None (Some condition) is each = absurd is
  when_passes test (Some range) (Some condition) is each =
      let some = inside.some in
      let term = child_term g (between (all_words d g draft read) range.0 range.1) (length base.names) (node base inside whole) (list base inside whole) (rules_terms base inside whole) is.1.0 (omega (arith, some)) in
      both_pass (test (pattern_of (productions_of g) (drop condition.first (leaves d g draft read)) read.vars sort_bool condition.shape)) true (each condition.first condition.shape term) refl

  pub sound_read : HasSoundValues o draft
  sound_read =
      subst (HasSoundValues o) (sym read.is)
      (record {
        values = both_pass_there (all_patterns has_formed_values) (λ left body good. good.values);
        condition_values = when_passes has_formed_values read.form.condition read.reading.condition read.read.condition_is
            (λ n shape term. values_pass base inside whole (drop n (leaves d g draft read)) read.vars (literals n).values sort_bool shape term);
        no_operator = left_free;
        origin = refl;
        numbers = both_pass_there (all_patterns (is_pattern_in_range o)) (λ left body good. good.numbers);
        condition_numbers = when_passes (is_pattern_in_range o) read.form.condition read.reading.condition read.read.condition_is
            (λ n shape term. numbers_pass base inside whole (drop n (leaves d g draft read)) read.vars (literals n).numbers sort_bool shape term);
      })
