-- The variables of what is read of a rule: each is settled where it stands.
use Rattle.std.proofs.Common.{◌≡◌, ℕ, ◌+◌, ◌≤◌, Bool, true, false, cond, ◌==◌, ◌||◌, List, [], ◌∷◌, ◌++◌, take, drop, length, Option, Some, None, refl, sym, ap, subst, ◌∙◌, arith}
use Rattle.std.proofs.lemmas.Bool.{eq-eqb}
use Rattle.std.specs.Prelude.{unwrap_or, option_map}
use Rattle.std.specs.List.{list_any, AllByRecursion, flat_map}
use Rattle.k_terms.specs.Sorts.{sort_bool}
use Rattle.k_terms.specs.declared.value.Symbol.{Symbol}
use Rattle.k_lexer.specs.declared.token.Token.{Token}
use Rattle.grammar_terms.specs.Grammar.{Syntax}
use Rattle.grammar_terms.specs.declared.word.Word.{Word}
use Rattle.file_reader.specs.declared.sentence.Sentence.{Sentence}
use Rattle.live_config.proofs.Members.{Has}
use Rattle.rule_terms.specs.declared.rule.Draft.{Draft}
use Rattle.rule_tokens.specs.declared.token.RuleToken.{RuleToken}
use Rattle.rule_cells.specs.declared.form.Inside.{Inside, Cells as CellsInside, Content as ContentInside}
use Rattle.rule_cells.specs.declared.form.RuleForm.{RuleForm}
use Rattle.rule_cells.specs.Forms.{is_of_bag, IsBodyBy, IsForm, condition_word}
use Rattle.rule_cells.specs.Marks.{marks}
use Rattle.rule_parts.specs.declared.leaves.Leaf.{Leaf}
use Rattle.rule_parts.specs.declared.parts.Side.{Side as Stands}
use Rattle.rule_parts.specs.declared.terms.Occurrence.{Occurrence}
use Rattle.rule_parts.specs.Leaves.{leaves_of}
use Rattle.rule_parts.specs.Productions.{productions_of}
use Rattle.rule_parts.specs.Sides.{is_left}
use Rattle.rule_parts.specs.Terms.{occurrences}
use Rattle.rule_drafts.specs.declared.reading.Condition.{Condition}
use Rattle.rule_drafts.specs.declared.reading.RuleReading.{RuleReading}
use Rattle.rule_drafts.specs.Cells.{kind_of, tag_of, parts_at, body_events, event_occurrences, event_faults}
use Rattle.rule_drafts.specs.Drafts.{stray_fault, condition_occurrences, found_by, faults_by, draft_by, HasNone, AreVariables}
use Rattle.rule_reader.specs.Contents.{cell_k, contents_of}
use Rattle.rule_reader.specs.Places.{between}
use Rattle.rule_reader.specs.Readings.{IsReadForm, IsConditionAs}
use Rattle.rule_reader.specs.Rules.{IsRule}
use Rattle.cell_trees.specs.Trees.{Tree as Declaration}
use Rattle.draft_laws.proofs.WrittenCells.{TextCell}
use Rattle.sound_sequences.proofs.Whats.{all_joined}
use Rattle.sound_sequences.proofs.Terms.{left_of_all, right_of_all}
use Rattle.sound_sequences.proofs.Spanned.{reading_spans}
use Rattle.sound_sequences.proofs.Agreeing.{IsAt, Agree, joined, is_before, is_behind, no_variables, agree_wider, term_agrees}
use Rattle.sound_sequences.proofs.Homes.{words, leaves_stand, leaves_home}
use Rattle.sound_sequences.proofs.Occurring.{term_each, parts_each}
use Rattle.sound_sequences.proofs.Told.{IsSettled}
use Rattle.sound_sequences.proofs.Follows.{all_from, all_member, both_all, dropped_stand, IsOfVariable, Follows, follows, not_told, leaf_told, Settles, all_settle}
use Rattle.sound_sequences.proofs.TextOccurrences.{found_by as content_found, found_in, CellHolds}
use Rattle.sound_sequences.proofs.TextCells.{body_size, size_within, behind_none, AreCells, of_body}
use Rattle.sound_sequences.proofs.ReadContents.{HasReading, cells_read, CellsAgree, cells_agree}

-- ---- faults

pub none_empty : (xs : List ℕ) → HasNone xs → xs ≡ []
none_empty [] none = refl
none_empty (x ∷ xs) none =
    let here : (x == x || list_any (λ other. other == x) xs) ≡ true = ap (λ b. b || list_any (λ other. other == x) xs) (eq-eqb x x refl) in
    absurd (let f : true ≡ false = sym here ∙ none x in cc)

pub front_empty : {X : Type 0} (xs ys : List X) → xs ++ ys ≡ [] → xs ≡ []
front_empty [] ys e = refl
front_empty (x ∷ xs) ys e = absurd (let f : x ∷ (xs ++ ys) ≡ [] = e in cc)

pub back_empty : {X : Type 0} (xs ys : List X) → xs ++ ys ≡ [] → ys ≡ []
back_empty [] ys e = e
back_empty (x ∷ xs) ys e = absurd (let f : x ∷ (xs ++ ys) ≡ [] = e in cc)

no_stray : (b : Bool) (at : ℕ) → cond b (at ∷ []) [] ≡ [] → b ≡ false
no_stray true at e = absurd (let f : at ∷ [] ≡ [] = e in cc)
no_stray false at e = refl

none_stray : (found : List Occurrence) → flat_map stray_fault found ≡ [] → AllByRecursion (λ (o : Occurrence). o.is_stray ≡ false) found
none_stray [] e = tt
none_stray (o ∷ found) e = (no_stray o.is_stray o.at (front_empty (stray_fault o) (flat_map stray_fault found) e), none_stray found (back_empty (stray_fault o) (flat_map stray_fault found) e))

-- ---- what is read of a rule

-- what a draft is made of that is read of a rule
pub record IsRead (d : Declaration) (g : Syntax) (draft : Draft) : Type 0 where
  pub text : List ℕ
  pub tokens : List RuleToken
  pub sorts : List (Symbol × ℕ)
  pub form : RuleForm
  pub form_is : IsForm d.shapes text tokens form
  pub at : ℕ
  pub reading : RuleReading
  pub read : IsReadForm g d.shapes (words tokens sorts) at form reading
  pub vars : List Occurrence
  pub are : AreVariables (cell_k d.shapes) (productions_of g) (leaves_of tokens (words tokens sorts)) d.shapes reading vars
  pub is : draft ≡ draft_by (cell_k d.shapes) (productions_of g) (leaves_of tokens (words tokens sorts)) d.shapes tokens reading vars

pub read_of : (d : Declaration) (g : Syntax) (before : List (List ℕ)) (text : List ℕ) (tokens : List Token) (rule : Sentence) (after : List (List ℕ)) (draft : Draft)
    → IsRule g d.shapes before text tokens rule after draft → IsRead d g draft
read_of d g before text tokens rule after draft is =
    let formed = is.is.is.is in
    record {
      text = text;
      tokens = is.split.tokens;
      sorts = is.is.is.sorts;
      form = formed.form;
      form_is = formed.form_is;
      at = _;
      reading = formed.is.reading;
      read = formed.is.read;
      vars = formed.is.is.0;
      are = formed.is.is.1;
      is = formed.is.is.2;
    }

module _ (d : Declaration) (g : Syntax) (draft : Draft) (read : IsRead d g draft) where
  abbrev pub all_words : List Word
  all_words = words read.tokens read.sorts

  abbrev pub leaves : List Leaf
  leaves = leaves_of read.tokens all_words

  -- how many tokens stand before the condition
  abbrev m : ℕ
  m = body_size read.tokens read.sorts read.text

  pub text_cells : (cells : List TextCell) × AreCells (productions_of g) leaves d.shapes read.reading.contents read.vars read.tokens read.sorts (cell_k d.shapes) m read.reading.body cells
  text_cells =
      of_body (productions_of g) leaves d.shapes read.reading.contents read.vars read.tokens read.sorts (cell_k d.shapes) m (size_within read.tokens read.sorts read.text)
      (behind_none read.tokens read.sorts read.text) (list_any is_of_bag (marks (take m read.tokens))) read.reading.body
      (subst (IsBodyBy d.shapes (marks (take m read.tokens)) (list_any is_of_bag (marks (take m read.tokens)))) (sym read.read.body_is) read.form_is.0)

  abbrev pub cells : List TextCell
  cells = text_cells.0

  pub reads : (one : TextCell) → Has cells one → HasReading g d.shapes all_words read.reading.contents one.on one.held.cell one.held.inside
  reads one h =
      cells_read g d.shapes all_words read.reading.contents cells (contents_of d.shapes read.form.body) 0 (m + 1)
      (ap (contents_of d.shapes) (sym read.read.body_is) ∙ text_cells.1.contents) read.read.contents_are text_cells.1.rise one h

  abbrev agree : CellsAgree g d.shapes all_words read.reading.contents leaves (leaves_stand read.tokens read.sorts) 0 (m + 1) cells
  agree = cells_agree g d.shapes all_words read.reading.contents leaves (leaves_stand read.tokens read.sorts) cells 0 (m + 1) text_cells.1.rise reads

  -- ---- the condition

  -- a condition is read behind the word that begins it
  begins_behind : (o : Option ℕ) (range : ℕ × ℕ) → option_map (λ n. (n + 1, length read.tokens)) o ≡ Some range → range.0 ≡ unwrap_or o (length read.tokens) + 1
  begins_behind None range e = absurd (let f : None ≡ Some range = e in cc)
  begins_behind (Some n) range e = let same : (n + 1, length read.tokens) ≡ range = cc in sym (ap (λ (r : ℕ × ℕ). r.0) same)

  condition_by : (o : Option Condition) (range : Option (ℕ × ℕ)) → option_map (λ n. (n + 1, length read.tokens)) (condition_word read.text read.tokens) ≡ range
      → IsConditionAs g all_words range o
      → (past : ℕ) × (m + 1 ≤ past) × Agree (m + 1) past (λ left. condition_occurrences (productions_of g) leaves o)
  condition_by None range e is = (m + 1, omega arith, no_variables (m + 1) (m + 1))
  condition_by (Some condition) None e is = absurd is
  condition_by (Some condition) (Some range) e is =
      let some = between all_words range.0 range.1 in
      let spans = reading_spans g some sort_bool condition.shape is.1.0 in
      let first : condition.first ≡ m + 1 = is.0 ∙ begins_behind (condition_word read.text read.tokens) range e in
      let all = term_agrees (productions_of g) (drop condition.first leaves) condition.first (dropped_stand condition.first leaves (leaves_stand read.tokens read.sorts)) 0 (length some) sort_bool false condition.shape spans in (
        condition.first + length some,
        omega (arith, first),
        agree_wider (m + 1) (condition.first + 0) (condition.first + length some) (condition.first + length some)
            (λ left. occurrences (productions_of g) (drop condition.first leaves) false sort_bool false condition.shape) (omega (arith, first)) (omega arith)
            (record { sort_at = all.sort_at; each = λ left. all.each false }),
      )

  behind : (past : ℕ) × (m + 1 ≤ past) × Agree (m + 1) past (λ left. condition_occurrences (productions_of g) leaves read.reading.condition)
  behind = condition_by read.reading.condition read.form.condition (sym read.form_is.1) read.read.condition_is

  -- ---- all variables

  abbrev sort_at : ℕ → ℕ
  sort_at = joined (m + 1) agree.sort_at behind.2.sort_at

  abbrev found : List Occurrence
  found = found_by (cell_k d.shapes) (productions_of g) leaves d.shapes read.reading

  content_told : (on : Stands) (cell start : ℕ) (left right : Bool) (inside : Inside)
      → AllByRecursion (IsOfVariable all_words) (content_found (productions_of g) leaves d.shapes read.reading.contents on cell start left right inside)
  content_told on cell start left right (CellsInside side) = tt
  content_told on cell start left right (ContentInside first past) =
      parts_each (IsOfVariable all_words) (productions_of g) (drop first leaves) (λ l sort whole at. leaf_told all_words leaves first (leaves_home read.tokens read.sorts) l sort whole at)
      (kind_of d.shapes cell) (parts_at (productions_of g) leaves d.shapes read.reading.contents on (tag_of cell start left right) first)

  pub cell_told : (one : TextCell) → AllByRecursion (IsOfVariable all_words) (found_in (productions_of g) leaves d.shapes read.reading.contents one)
  cell_told one = content_told one.on one.held.cell one.held.start one.held.left_dots one.held.right_dots one.held.inside

  condition_told : (o : Option Condition) → AllByRecursion (IsOfVariable all_words) (condition_occurrences (productions_of g) leaves o)
  condition_told None = tt
  condition_told (Some condition) =
      term_each (IsOfVariable all_words) (productions_of g) (drop condition.first leaves)
      (λ l sort whole at. leaf_told all_words leaves condition.first (leaves_home read.tokens read.sorts) l sort whole at) false sort_bool false condition.shape

  cell_follows : (one : TextCell) → Has cells one → CellHolds (productions_of g) leaves d.shapes read.reading.contents (Follows all_words sort_at) one
  cell_follows one h = record {
    content =
        both_all (IsAt agree.sort_at 0 (m + 1)) (IsOfVariable all_words) (Follows all_words sort_at)
        (λ o at is. follows all_words sort_at 0 behind.0 o (is_before agree.sort_at behind.2.sort_at 0 (m + 1) behind.0 o behind.1 at) is)
        (found_in (productions_of g) leaves d.shapes read.reading.contents one)
        (all_member (λ (c : TextCell). AllByRecursion (IsAt agree.sort_at 0 (m + 1)) (found_in (productions_of g) leaves d.shapes read.reading.contents c)) cells one agree.each h) (cell_told one);
    dots = λ sort. not_told all_words sort_at (record { at = one.held.start; home = one.held.start; sort = sort; is_left = is_left one.on; is_stray = false }) (text_cells.1.tags one h);
  }

  condition_follows : AllByRecursion (Follows all_words sort_at) (condition_occurrences (productions_of g) leaves read.reading.condition)
  condition_follows =
      both_all (IsAt behind.2.sort_at (m + 1) behind.0) (IsOfVariable all_words) (Follows all_words sort_at)
      (λ o at is. follows all_words sort_at 0 behind.0 o (is_behind agree.sort_at behind.2.sort_at 0 (m + 1) behind.0 o (omega arith) at) is)
      (condition_occurrences (productions_of g) leaves read.reading.condition) (behind.2.each false) (condition_told read.reading.condition)

  abbrev in_body : List Occurrence
  in_body = flat_map (event_occurrences (productions_of g) leaves d.shapes read.reading.contents) (body_events (cell_k d.shapes) read.reading.body)

  abbrev in_condition : List Occurrence
  in_condition = condition_occurrences (productions_of g) leaves read.reading.condition

  all_follow : AllByRecursion (Follows all_words sort_at) found
  all_follow =
      all_joined (Follows all_words sort_at) in_body in_condition
      (text_cells.1.told sort_at (all_from (CellHolds (productions_of g) leaves d.shapes read.reading.contents (Follows all_words sort_at)) cells cell_follows)) condition_follows

  -- ---- no fault

  no_faults : faults_by (cell_k d.shapes) (productions_of g) leaves d.shapes read.reading ≡ []
  no_faults = none_empty (faults_by (cell_k d.shapes) (productions_of g) leaves d.shapes read.reading) read.are.formed

  all_placed : AllByRecursion (λ (o : Occurrence). o.is_stray ≡ false) found
  all_placed = none_stray found (front_empty (flat_map stray_fault found) _ no_faults)

  -- the contents have forms of a rule
  pub formed : flat_map (event_faults (productions_of g) leaves d.shapes read.reading.contents read.vars) (body_events (cell_k d.shapes) read.reading.body) ≡ []
  formed =
      ap (λ vs. flat_map (event_faults (productions_of g) leaves d.shapes read.reading.contents vs) (body_events (cell_k d.shapes) read.reading.body)) read.are.are
      ∙ back_empty (flat_map stray_fault found) _ no_faults

  -- ---- so that each is settled

  settling : AllByRecursion (Settles all_words found read.vars sort_at all_follow all_placed read.are.are) found
  settling = all_settle all_words found read.vars sort_at all_follow all_placed read.are.are

  abbrev pub IsSettling : Occurrence → Type 0
  IsSettling o = IsOfVariable all_words o → IsSettled read.vars o

  pub body_settles : AllByRecursion IsSettling in_body
  body_settles = left_of_all IsSettling in_body in_condition settling

  pub condition_settled : AllByRecursion (IsSettled read.vars) in_condition
  condition_settled =
      both_all IsSettling (IsOfVariable all_words) (IsSettled read.vars) (λ o to is. to is) in_condition (right_of_all IsSettling in_body in_condition settling) (condition_told read.reading.condition)
