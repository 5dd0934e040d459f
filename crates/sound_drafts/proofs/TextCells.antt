-- The cells of the text of a rule, with what the variables of the text are told by.
use Rattle.std.proofs.Common.{◌≡◌, ◌⊎◌, inl, inr, ℕ, Bool, true, false, ◌||◌, List, [], ◌∷◌, ◌++◌, map, take, length, None, refl, sym, ap, subst, ◌∙◌, arith, zero, suc, ◌+◌, ◌≤◌}
use Rattle.std.proofs.lemmas.List.{length-map}
use Rattle.std.specs.List.{AllByRecursion, flat_map}
use Rattle.grammar_terms.specs.Grammar.{Syntax}
use Rattle.grammar_terms.specs.declared.word.Word.{Word}
use Rattle.live_config.proofs.Members.{Has, has_left, has_either, has_map, map_has}
use Rattle.rule_terms.specs.declared.defs.CellShape.{CellShape}
use Rattle.rule_terms.specs.declared.pattern.CellPat.{CellPat}
use Rattle.rule_terms.specs.declared.rule.Draft.{Draft}
use Rattle.rule_tokens.specs.declared.token.RuleToken.{RuleToken}
use Rattle.rule_cells.specs.declared.form.Inside.{Inside, Cells as CellsInside, Content as ContentInside}
use Rattle.rule_cells.specs.Forms.{IsWritten, IsBodyBy}
use Rattle.rule_cells.specs.Marks.{marks, kind_mark}
use Rattle.rule_cells.specs.Written.{Side, signs_of_side, side_at, is_of_cells}
use Rattle.rule_parts.specs.declared.argument_sorts.Productions.{Productions}
use Rattle.rule_parts.specs.declared.leaves.Leaf.{Leaf}
use Rattle.rule_parts.specs.declared.parts.Side.TheVariants.{Both}
use Rattle.rule_parts.specs.declared.terms.Occurrence.{Occurrence}
use Rattle.rule_parts.specs.Productions.{productions_of}
use Rattle.rule_drafts.specs.declared.reading.Reading.{Reading}
use Rattle.rule_drafts.specs.Cells.{mark_of, front_tag, body_cells, body_events, event_occurrences, content_faults, event_faults}
use Rattle.rule_reader.specs.Contents.{cell_k, inside_contents}
use Rattle.rule_reader.specs.Readings.{AreReadAs}
use Rattle.cell_trees.specs.Trees.{Tree as Declaration, IsTree}
use Rattle.strictness.specs.SoundDrafts.{spots_of}
use Rattle.draft_laws.proofs.Tags.{opens, Rise, opens_rise, marks_count}
use Rattle.draft_laws.proofs.CellK.{k_plain}
use Rattle.draft_laws.proofs.WrittenCells.{TextCell, cell_at, side_cells, tag_of, Tag, full_tag, full_by, start_tag, side_full_tags, side_tags, side_starts, has_cells_in, HoldsAsDeclared, side_held}
use Rattle.draft_laws.proofs.Sides.{front_held, pictures, side_shown, front_shown}
use Rattle.draft_laws.proofs.Occurring.{AreGood, leaves_good}
use Rattle.draft_laws.proofs.Events.{IsTag, tag_there, TellsDots, side_dots}
use Rattle.draft_laws.proofs.ReadDrafts.{IsMade, made_leaves}
use Rattle.sound_drafts.proofs.Bags.{IsTold, side_told}
use Rattle.sound_drafts.proofs.TextEvents.{told_in, IsOfCells, side_of}
use Rattle.sound_drafts.proofs.TextContents.{IsToldAmong, IsFaultyAmong, side_there}
use Rattle.sound_drafts.proofs.HeldContents.{HeldContent, held_contents, Follow, follow_wider, side_follow}
use Rattle.sound_drafts.proofs.HeldReadings.{AreHeldAs, one_held, side_held as side_held_as}
use Rattle.sound_drafts.proofs.ContentLayers.{inside-Cells, inside-Content}

all_of : {X : Type 0} (P : X → Type 0) (xs : List X) → ((x : X) → Has xs x → P x) → AllByRecursion P xs
all_of P [] each = tt
all_of P (x ∷ xs) each = (each x (inl refl), all_of P xs (λ y h. each y (inr h)))

few_taken : {X : Type 0} (m : ℕ) (xs : List X) → length (take m xs) ≤ m
few_taken zero xs = omega arith
few_taken (suc m) [] = omega arith
few_taken (suc m) (x ∷ xs) = let few = few_taken m xs in omega (arith, few)

none_behind : {X : Type 0} (xs : List X) (x : X) → Has (xs ++ []) x → Has xs x
none_behind xs x h = elim (has_either xs [] x h) [ inl there ↦ there | inr none ↦ absurd none ]

module _ (g : Productions) (leaves : List Leaf) (shapes : List CellShape) (readings : List Reading) (vars : List Occurrence) (tokens : List RuleToken) (k : ℕ) where
  abbrev pub sides : Bool → Inside → List CellPat
  sides left body = body_cells g leaves shapes readings vars tokens left k body

  abbrev pub occurrences_of : Inside → List Occurrence
  occurrences_of body = flat_map (event_occurrences g leaves shapes readings) (body_events k body)

  abbrev pub faults_of : Inside → List ℕ
  faults_of body = flat_map (event_faults g leaves shapes readings vars) (body_events k body)

  -- The variables of a body are told by its cells and by tokens that are no tags. Each cell is told by its tag.
  pub record Tells (body : Inside) (cells : List TextCell) : Type 0 where
    pub told : AllByRecursion (IsTold tokens cells) (occurrences_of body)
    pub tags : (one : TextCell) → Has cells one → IsTag tokens one.held.start
    pub marks_are : (one : TextCell) → Has cells one → one.mark ≡ mark_of tokens one.held.start
    pub dots : (one : TextCell) → Has cells one → has_cells_in one.held.inside ≡ true → (one.held.left_dots || one.held.right_dots) ≡ true → TellsDots (occurrences_of body) one

  abbrev pub HoldNoCells : List TextCell → Type 0
  HoldNoCells cells = (one : TextCell) → Has cells one → has_cells_in one.held.inside ≡ true → ⊥

  -- a body has these cells, on both sides
  pub record AreTextCells (m : ℕ) (body : Inside) (cells : List TextCell) : Type 0 where
    pub left : spots_of (sides true body) ≡ pictures g leaves shapes readings vars tokens true cells
    pub right : spots_of (sides false body) ≡ pictures g leaves shapes readings vars tokens false cells
    pub rise : Rise 0 (map tag_of cells)
    pub held : AllByRecursion (HoldsAsDeclared shapes) cells
    pub tells : HoldNoCells cells ⊎ Tells body cells
    pub each : AllByRecursion (IsOfCells g leaves shapes readings cells) (occurrences_of body)
    pub among : (one : TextCell) → Has cells one → IsToldAmong g leaves shapes readings vars (occurrences_of body) one
    pub faulty : (one : TextCell) → Has cells one → IsFaultyAmong g leaves shapes readings vars (faults_of body) one
    pub follow : Follow 0 (m + 1) (held_contents cells)
    pub held_as : (s : Syntax) (words : List Word) (read : List Reading) → AreReadAs s shapes words (inside_contents Both k body) read → AreHeldAs s shapes words (held_contents cells) read

  module _ (m : ℕ) (good : AreGood tokens leaves) (plain : is_of_cells shapes k ≡ false) where
    -- so many tokens are before the condition
    few_signs : length (marks (take m tokens)) ≤ m
    few_signs = let size = length-map (take m tokens) (λ (token : RuleToken). kind_mark token.kind) in let few = few_taken m tokens in omega (arith, size, few)

    follow_few : (n : ℕ) (contents : List HeldContent) → n ≡ length (marks (take m tokens)) → Follow 0 (0 + n) contents → Follow 0 (m + 1) contents
    follow_few n contents e f = follow_wider 0 0 (0 + n) (m + 1) contents (omega arith) (let few = few_signs in omega (arith, few, e)) f

    module _ (side : Side) (written : IsWritten shapes (marks (take m tokens)) side) where
      abbrev cells_in : List TextCell
      cells_in = side_cells (mark_of tokens) Both None 0 side

      starts_there : (one : TextCell) → Has cells_in one → IsTag tokens one.held.start
      starts_there one h =
          tag_there m tokens (start_tag one)
          (subst (λ tags. Has tags (start_tag one)) (side_starts shapes (mark_of tokens) Both None 0 side written.allowed (take m tokens) (sym written.signs_are)) (has_map start_tag cells_in one h))

      marked_by : (one : TextCell) → Has cells_in one → one.mark ≡ mark_of tokens one.held.start
      marked_by one h =
          let there : Has (map (full_by (mark_of tokens)) (opens 0 (take m tokens))) (full_tag one) =
          subst (λ tags. Has tags (full_tag one)) (side_full_tags shapes (mark_of tokens) Both None 0 side written.allowed (take m tokens) (sym written.signs_are)) (has_map full_tag cells_in one h) in
          let t = map_has (full_by (mark_of tokens)) (opens 0 (take m tokens)) (full_tag one) there in
          sym (ap (λ (tag : Tag). tag.1.1) t.2) ∙ ap (mark_of tokens) (ap (λ (tag : Tag). tag.1.0) t.2)

      cells_tell : Tells (CellsInside (side_at 0 side)) cells_in
      cells_tell = record {
        told = (side_told g leaves shapes readings tokens good (mark_of tokens) cells_in Both None 0 0 side (λ some h. h)).told;
        tags = starts_there;
        marks_are = marked_by;
        dots = λ one h cells dots. (side_dots g leaves shapes readings (mark_of tokens) Both None 0 0 side one h (cells, dots)).tells;
      }

      of_cells : AreTextCells m (CellsInside (side_at 0 side)) cells_in
      of_cells =
          let tags = side_tags shapes (mark_of tokens) Both None 0 side written.allowed (take m tokens) (sym written.signs_are) in
          record {
            left = side_shown g leaves shapes readings vars tokens true Both None 0 side;
            right = side_shown g leaves shapes readings vars tokens false Both None 0 side;
            rise = subst (Rise 0) (sym tags) (opens_rise (mark_of tokens) 0 (take m tokens) (marks_count tokens m));
            held = side_held shapes (mark_of tokens) Both None 0 side written.allowed;
            tells = inr cells_tell;
            each = (side_of g leaves shapes readings (mark_of tokens) cells_in Both None 0 0 side (λ some h. h)).each;
            among = λ one h. (side_there g leaves shapes readings vars (mark_of tokens) Both None 0 0 side one h).told;
            faulty = λ one h. (side_there g leaves shapes readings vars (mark_of tokens) Both None 0 0 side one h).faulty;
            follow = follow_few (length (signs_of_side side)) (held_contents cells_in) (ap length written.signs_are) (side_follow (mark_of tokens) Both None 0 side);
            held_as = λ s words read are. side_held_as s shapes words (mark_of tokens) Both None 0 side read (subst (λ cs. AreReadAs s shapes words cs read) (inside-Cells Both k (side_at 0 side)) are);
          }

    -- the one cell of a body that is a content
    abbrev lone_cell : ℕ → ℕ → TextCell
    lone_cell first past = cell_at Both None (mark_of tokens past) (front_held k first past)

    lone_bare : (first past : ℕ) → HoldNoCells (lone_cell first past ∷ [])
    lone_bare first past one (inl e) holds = absurd (let f : false ≡ true = ap (λ (c : TextCell). has_cells_in c.held.inside) e ∙ holds in cc)
    lone_bare first past one (inr none) holds = none

    lone_each : (first past : ℕ) → AllByRecursion (IsOfCells g leaves shapes readings (lone_cell first past ∷ [])) (occurrences_of (ContentInside first past))
    lone_each first past =
        all_of (IsOfCells g leaves shapes readings (lone_cell first past ∷ [])) (occurrences_of (ContentInside first past)) (λ o h.
        inr (record { one = lone_cell first past; has = inl refl; first = first; past = past; inside_is = refl; there = none_behind (told_in g leaves shapes readings (lone_cell first past) first) o h }))

    lone_among : (first past : ℕ) (one : TextCell) → Has (lone_cell first past ∷ []) one → IsToldAmong g leaves shapes readings vars (occurrences_of (ContentInside first past)) one
    lone_among first past one (inr none) = absurd none
    lone_among first past one (inl e) =
        subst (IsToldAmong g leaves shapes readings vars (occurrences_of (ContentInside first past))) e (λ at behind is o h.
        let same : first ≡ at = cc in
        has_left (told_in g leaves shapes readings (lone_cell first past) first) [] o (subst (λ n. Has (told_in g leaves shapes readings (lone_cell first past) n) o) (sym same) h))

    lone_faulty : (first past : ℕ) (one : TextCell) → Has (lone_cell first past ∷ []) one → IsFaultyAmong g leaves shapes readings vars (faults_of (ContentInside first past)) one
    lone_faulty first past one (inr none) = absurd none
    lone_faulty first past one (inl e) =
        subst (IsFaultyAmong g leaves shapes readings vars (faults_of (ContentInside first past))) e (λ at behind is o h.
        let same : first ≡ at = cc in
        has_left (content_faults g leaves shapes readings vars Both (front_tag k past) first) [] o (subst (λ n. Has (content_faults g leaves shapes readings vars Both (front_tag k past) n) o) (sym same) h))

    lone_follow : (first past : ℕ) → (first ≤ past) × (past ≤ m) → Follow 0 (m + 1) (held_contents (lone_cell first past ∷ []))
    lone_follow first past within = let few = within.1 in (omega arith, within.0, omega (arith, few))

    of_content : (first past : ℕ) → (first ≤ past) × (past ≤ m) → AreTextCells m (ContentInside first past) (lone_cell first past ∷ [])
    of_content first past within = record {
      left = front_shown g leaves shapes readings vars tokens true k first past;
      right = front_shown g leaves shapes readings vars tokens false k first past;
      rise = (omega arith, tt);
      held = (plain, tt);
      tells = inl (lone_bare first past);
      each = lone_each first past;
      among = lone_among first past;
      faulty = lone_faulty first past;
      follow = lone_follow first past within;
      held_as = λ s words read are. one_held s shapes words (record { cell = k; on = Both; first = first; past = past }) read (subst (λ cs. AreReadAs s shapes words cs read) (inside-Content Both k first past) are);
    }

    pub of_body : (bag : Bool) (body : Inside) → IsBodyBy shapes (marks (take m tokens)) bag body → (cells : List TextCell) × AreTextCells m body cells
    of_body true body is = (side_cells (mark_of tokens) Both None 0 is.0, subst (λ b. AreTextCells m b (side_cells (mark_of tokens) Both None 0 is.0)) (sym is.2) (of_cells is.0 is.1))
    of_body false body is =
        (_, subst (λ b. AreTextCells m b (lone_cell 0 (length (marks (take m tokens))) ∷ [])) (sym is) (of_content 0 (length (marks (take m tokens))) (omega arith, few_signs)))

module _ (d : Declaration) (g : Syntax) (draft : Draft) (tree : IsTree d) (made : IsMade d g draft) where
  pub text : (cells : List TextCell)
      × AreTextCells (productions_of g) (made_leaves d g draft tree made) d.shapes made.reading.contents made.vars made.tokens (cell_k d.shapes) made.m made.reading.body cells
  text =
      of_body (productions_of g) (made_leaves d g draft tree made) d.shapes made.reading.contents made.vars made.tokens (cell_k d.shapes) made.m (leaves_good made.tokens made.sorts) (k_plain d tree)
      made.bag made.reading.body made.body_is
