-- In what is read of a rule whole sequences and rests stand where they may.
use Rattle.std.proofs.Common.{◌≡◌, ℕ, Bool, true, false, List, [], ◌++◌, filter, drop, Option, Some, None, refl, sym, ap, subst, ◌∙◌}
use Rattle.std.specs.Prelude.{IsTrue}
use Rattle.std.specs.List.{list_all, AllByRecursion, flat_map}
use Rattle.k_terms.specs.Sorts.{sort_bool}
use Rattle.grammar_terms.specs.Grammar.{Syntax}
use Rattle.live_config.proofs.Members.{Has, kept, map_has}
use Rattle.rule_terms.specs.declared.pattern.Pattern.{Pattern}
use Rattle.rule_terms.specs.declared.pattern.Body.{Body}
use Rattle.rule_terms.specs.declared.rule.Draft.{Draft}
use Rattle.rule_terms.specs.Sound.{has_whole_sequences, all_patterns, condition_test, has_one_form, is_item}
use Rattle.rule_terms.specs.Spots.{Spot}
use Rattle.rule_cells.specs.declared.form.Inside.{Inside, Cells as CellsInside, Content as ContentInside}
use Rattle.rule_parts.specs.declared.parts.Side.{Side as Stands}
use Rattle.rule_parts.specs.declared.terms.Occurrence.{Occurrence}
use Rattle.rule_parts.specs.Productions.{productions_of}
use Rattle.rule_parts.specs.Sides.{is_left, stands, whole_sort}
use Rattle.rule_parts.specs.Terms.{pattern_of}
use Rattle.rule_drafts.specs.declared.reading.Condition.{Condition}
use Rattle.rule_drafts.specs.Bodies.{dots_before, dots_behind}
use Rattle.rule_drafts.specs.Cells.{kind_of, tag_of, event_occurrences, inside_events, content_faults, event_faults, body_events, inside_body}
use Rattle.rule_drafts.specs.Drafts.{when_of, draft_by, condition_occurrences}
use Rattle.rule_drafts.proofs.ItemLayers.{events-Content, body-Cells, body-Content}
use Rattle.rule_reader.specs.Contents.{cell_k}
use Rattle.strictness.specs.SoundDrafts.{spots_of}
use Rattle.cell_trees.specs.Trees.{Tree as Declaration, IsTree}
use Rattle.draft_laws.proofs.WrittenCells.{TextCell}
use Rattle.draft_laws.proofs.Sides.{is_on, spot_of, pictures}
use Rattle.sound_sequences.specs.Laws.{HasWholeSequences}
use Rattle.sound_sequences.proofs.Fronts.{both_pass}
use Rattle.sound_sequences.proofs.Told.{IsSettled, AreSettled, sorts_with, IsSound}
use Rattle.sound_sequences.proofs.Terms.{left_of_all, right_of_all, OperatorsTakeItems, term_sound}
use Rattle.sound_sequences.proofs.Whats.{all_pass_joined}
use Rattle.sound_sequences.proofs.Unmade.{HasSorts}
use Rattle.sound_sequences.proofs.Follows.{both_all, IsOfVariable}
use Rattle.sound_sequences.proofs.TextEvents.{IsPartOf, part_all}
use Rattle.sound_sequences.proofs.TextOccurrences.{found_by as content_found}
use Rattle.sound_sequences.proofs.ReadContents.{HasReading}
use Rattle.sound_sequences.proofs.RuleVariables.{front_empty, IsRead, all_words, leaves, text_cells, cells, reads, cell_told, formed, IsSettling, body_settles, condition_settled}
use Rattle.sound_sequences.proofs.RuleBodies.{all_pass, part_empty, IsSoundThere, content_sound}

module _ (d : Declaration) (g : Syntax) (draft : Draft) (tree : IsTree d) (has : HasSorts g) (takes : OperatorsTakeItems (productions_of g)) (read : IsRead d g draft) (more : List ℕ) where
  abbrev IsGood : Body → Type 0
  IsGood body = IsSoundThere d g draft tree has takes read more body

  -- ---- cells

  settled_in : (on : Stands) (cell start first past : ℕ) (l r : Bool)
      → IsPartOf (inside_events on (tag_of cell start l r) (ContentInside first past)) (body_events (cell_k d.shapes) read.reading.body)
      → AllByRecursion (IsOfVariable (all_words d g draft read)) (content_found (productions_of g) (leaves d g draft read) d.shapes read.reading.contents on cell start l r (ContentInside first past))
      → AreSettled read.vars (content_found (productions_of g) (leaves d g draft read) d.shapes read.reading.contents on cell start l r (ContentInside first past))
  settled_in on cell start first past l r part told =
      let tag = tag_of cell start l r in
      let F = event_occurrences (productions_of g) (leaves d g draft read) d.shapes read.reading.contents in
      let found = content_found (productions_of g) (leaves d g draft read) d.shapes read.reading.contents on cell start l r (ContentInside first past) in
      let before : List Occurrence = dots_before tag (whole_sort (kind_of d.shapes cell)) (is_left on) in
      let behind : List Occurrence = dots_behind tag (whole_sort (kind_of d.shapes cell)) (is_left on) in
      let own : AllByRecursion (IsSettling d g draft read) (((before ++ found) ++ behind) ++ []) =
      subst (λ events. AllByRecursion (IsSettling d g draft read) (flat_map F events)) (events-Content on tag first past)
      (part_all (IsSettling d g draft read) F (inside_events on tag (ContentInside first past)) (body_events (cell_k d.shapes) read.reading.body) part (body_settles d g draft read)) in
      both_all (IsSettling d g draft read) (IsOfVariable (all_words d g draft read)) (IsSettled read.vars) (λ o to is. to is) found
      (right_of_all (IsSettling d g draft read) before found
      (left_of_all (IsSettling d g draft read) (before ++ found) behind (left_of_all (IsSettling d g draft read) ((before ++ found) ++ behind) [] own))) told

  formed_in : (on : Stands) (cell start first past : ℕ) (l r : Bool)
      → IsPartOf (inside_events on (tag_of cell start l r) (ContentInside first past)) (body_events (cell_k d.shapes) read.reading.body)
      → content_faults (productions_of g) (leaves d g draft read) d.shapes read.reading.contents read.vars on (tag_of cell start l r) first ≡ []
  formed_in on cell start first past l r part =
      let tag = tag_of cell start l r in
      let F = event_faults (productions_of g) (leaves d g draft read) d.shapes read.reading.contents read.vars in
      let own : flat_map F (inside_events on tag (ContentInside first past)) ≡ [] =
      part_empty F (inside_events on tag (ContentInside first past)) (body_events (cell_k d.shapes) read.reading.body) part (formed d g draft read) in
      front_empty (content_faults (productions_of g) (leaves d g draft read) d.shapes read.reading.contents read.vars on tag first) []
      (ap (flat_map F) (sym (events-Content on tag first past)) ∙ own)

  by_inside : (left : Bool) (on : Stands) (cell start : ℕ) (l r : Bool) (inside : Inside)
      → HasReading g d.shapes (all_words d g draft read) read.reading.contents on cell inside
      → stands left on ≡ true → IsPartOf (inside_events on (tag_of cell start l r) inside) (body_events (cell_k d.shapes) read.reading.body)
      → AllByRecursion (IsOfVariable (all_words d g draft read)) (content_found (productions_of g) (leaves d g draft read) d.shapes read.reading.contents on cell start l r inside)
      → IsGood (inside_body (productions_of g) (leaves d g draft read) d.shapes read.reading.contents read.vars read.tokens left on (tag_of cell start l r) inside)
  by_inside left on cell start l r (CellsInside side) found here part told =
      subst IsGood (sym (body-Cells (productions_of g) (leaves d g draft read) d.shapes read.reading.contents read.vars read.tokens left on (tag_of cell start l r) side))
      (record { wholes = refl; form = refl })
  by_inside left on cell start l r (ContentInside first past) found here part told =
      subst IsGood (sym (body-Content (productions_of g) (leaves d g draft read) d.shapes read.reading.contents read.vars read.tokens left on (tag_of cell start l r) first past))
      (content_sound d g draft tree has takes read more on cell start first past l r left found here (settled_in on cell start first past l r part told) (formed_in on cell start first past l r part))

  abbrev picture : Bool → TextCell → Spot
  picture left one = spot_of (productions_of g) (leaves d g draft read) d.shapes read.reading.contents read.vars read.tokens left one

  cell_sound : (left : Bool) (one : TextCell) → Has (cells d g draft read) one → is_on left one ≡ true → IsGood (picture left one).body
  cell_sound left one h here =
      by_inside left one.on one.held.cell one.held.start one.held.left_dots one.held.right_dots one.held.inside (reads d g draft read one h) here
      ((text_cells d g draft read).1.lies one h).is (cell_told d g draft read one)

  -- ---- sides

  abbrev pictures_on : Bool → List Spot
  pictures_on left = pictures (productions_of g) (leaves d g draft read) d.shapes read.reading.contents read.vars read.tokens left (cells d g draft read)

  side_passes : (left : Bool) (test : Body → Bool) → ((body : Body) → IsGood body → test body ≡ true)
      → list_all (λ (p : Spot). test p.body) (pictures_on left) ≡ true
  side_passes left test each =
      all_pass (λ (p : Spot). test p.body) (pictures_on left) (λ p h.
      let t = map_has (picture left) (filter (is_on left) (cells d g draft read)) p h in
      let k = kept (is_on left) (cells d g draft read) t.0 t.1 in
      ap (λ (s : Spot). test s.body) (sym t.2) ∙ each (picture left t.0).body (cell_sound left t.0 k.0 k.1))

  -- the draft with these variables
  abbrev made : Draft
  made = draft_by (cell_k d.shapes) (productions_of g) (leaves d g draft read) d.shapes read.tokens read.reading read.vars

  both_pass_there : (test : Body → Bool) → ((body : Body) → IsGood body → test body ≡ true)
      → list_all (λ (p : Spot). test p.body) (spots_of made.left ++ spots_of made.right) ≡ true
  both_pass_there test each =
      (λ i. list_all (λ (p : Spot). test p.body) ((text_cells d g draft read).1.left i ++ (text_cells d g draft read).1.right i))
      ∙ all_pass_joined (λ (p : Spot). test p.body) (pictures_on true) (pictures_on false) (side_passes true test each) (side_passes false test each)

  pub sequences : IsTrue (list_all (λ (p : Spot). all_patterns (has_whole_sequences (made.vars ++ more)) p.body) (spots_of made.left ++ spots_of made.right))
  sequences = both_pass_there (all_patterns (has_whole_sequences (sorts_with read.vars more))) (λ body good. good.wholes)

  pub forms : IsTrue (list_all (λ (p : Spot). has_one_form (made.vars ++ more) p.body) (spots_of made.left ++ spots_of made.right))
  forms = both_pass_there (has_one_form (sorts_with read.vars more)) (λ body good. good.form)

  -- ---- conditions

  when_sound : (test : Pattern → Bool) (o : Option Condition) → AreSettled read.vars (condition_occurrences (productions_of g) (leaves d g draft read) o)
      → ((part : Pattern) → IsSound read.vars more false part → test part ≡ true)
      → list_all (condition_test test) (when_of (productions_of g) (leaves d g draft read) read.vars o) ≡ true
  when_sound test None all each = refl
  when_sound test (Some condition) all each =
      both_pass (test (pattern_of (productions_of g) (drop condition.first (leaves d g draft read)) read.vars sort_bool condition.shape)) true
      (each (pattern_of (productions_of g) (drop condition.first (leaves d g draft read)) read.vars sort_bool condition.shape)
      (term_sound read.vars more (productions_of g) (drop condition.first (leaves d g draft read)) takes false sort_bool false condition.shape all)) refl

  pub condition_sequences : IsTrue (list_all (condition_test (has_whole_sequences (made.vars ++ more))) made.when)
  condition_sequences = when_sound (has_whole_sequences (sorts_with read.vars more)) read.reading.condition (condition_settled d g draft read) (λ part sound. sound.wholes)

  pub condition_forms : IsTrue (list_all (condition_test (is_item (made.vars ++ more))) made.when)
  condition_forms = when_sound (is_item (sorts_with read.vars more)) read.reading.condition (condition_settled d g draft read) (λ part sound. sound.item refl)

-- what is read of a rule
pub whole_read : (d : Declaration) (g : Syntax) (draft : Draft) → IsTree d → HasSorts g → OperatorsTakeItems (productions_of g) → IsRead d g draft
    → HasWholeSequences draft
whole_read d g draft tree has takes read =
    subst HasWholeSequences (sym read.is)
    (record {
      sequences = sequences d g draft tree has takes read;
      condition_sequences = condition_sequences d g draft tree has takes read;
      forms = forms d g draft tree has takes read;
      condition_forms = condition_forms d g draft tree has takes read;
    })
