-- What is read of a rule may be completed.
use Rattle.std.proofs.Common.{◌≡◌, inl, inr, ℕ, ◌<◌, ◌≤◌, Bool, true, false, cond, List, [], ◌∷◌, map, take, length, Option, Some, None, refl, sym, ap, subst, ◌∙◌, arith}
use Rattle.std.proofs.lemmas.Bool.Decides.{nat_tests}
use Rattle.std.specs.Prelude.{nat_lt, unwrap_or, codes}
use Rattle.std.specs.List.{AllByRecursion, flat_map, position_from}
use Rattle.production_reader.specs.Allowed.{same_text}
use Rattle.k_terms.specs.declared.value.Symbol.{Symbol}
use Rattle.k_lexer.specs.declared.token.Token.{Token}
use Rattle.grammar_terms.specs.Grammar.{Syntax}
use Rattle.sorted_grammar.specs.declared.fault.What.TheVariants.{RuleTokens}
use Rattle.file_reader.specs.declared.sentence.Sentence.{Sentence}
use Rattle.live_config.proofs.Members.{Has}
use Rattle.rule_terms.specs.declared.defs.CellShape.{CellShape}
use Rattle.rule_terms.specs.declared.pattern.CellPat.{CellPat}
use Rattle.rule_terms.specs.declared.rule.Draft.{Draft}
use Rattle.rule_tokens.specs.declared.token.RuleToken.{RuleToken}
use Rattle.rule_tokens.specs.declared.split.RuleSplit.{RuleSplit}
use Rattle.rule_cells.specs.declared.form.Inside.{Inside, Cells as CellsInside, Content as ContentInside}
use Rattle.rule_cells.specs.Forms.{IsWritten, IsBodyBy, condition_word}
use Rattle.rule_cells.specs.Marks.{marks}
use Rattle.rule_cells.specs.Written.{Side, side_at, is_of_cells}
use Rattle.rule_contents.specs.Words.{word_of}
use Rattle.rule_parts.specs.declared.argument_sorts.Productions.{Productions}
use Rattle.rule_parts.specs.declared.leaves.Leaf.{Leaf}
use Rattle.rule_parts.specs.declared.parts.Side.TheVariants.{Both}
use Rattle.rule_parts.specs.declared.terms.Occurrence.{Occurrence}
use Rattle.rule_parts.specs.Leaves.{leaves_of}
use Rattle.rule_parts.specs.Productions.{productions_of}
use Rattle.rule_drafts.specs.declared.reading.Reading.{Reading}
use Rattle.rule_drafts.specs.declared.reading.RuleReading.{RuleReading}
use Rattle.rule_drafts.specs.Cells.{mark_of, body_cells}
use Rattle.rule_drafts.specs.Drafts.{draft_by, AreVariables}
use Rattle.rule_reader.specs.Contents.{cell_k}
use Rattle.rule_reader.specs.Rules.{IsRule, base_of}
use Rattle.rule_reader.specs.declared.refusal.RuleFault.TheVariants.{TooMany}
use Rattle.rule_reader.specs.Told.{token_limit, bad_fault, split_fault}
use Rattle.cell_trees.specs.Trees.{Tree as Declaration, IsTree}
use Rattle.rule_completion.specs.Rules.{IsWrittenDraft}
use Rattle.rule_completion.specs.Writing.{cells_at}
use Rattle.strictness.specs.SoundDrafts.{spots_of}
use Rattle.draft_laws.proofs.Tags.{opens, by_mark, Rise, opens_rise, marks_count, mark_within}
use Rattle.draft_laws.proofs.CellK.{k_plain}
use Rattle.draft_laws.proofs.Known.{position_within, split_known}
use Rattle.draft_laws.proofs.WrittenCells.{TextCell, cell_at, side_cells, tag_of, AreEnclosed, HoldsAsDeclared, side_tags, side_enclosed, side_held}
use Rattle.draft_laws.proofs.Sides.{front_held, pictures, side_shown, front_shown, as_listed}
use Rattle.draft_laws.proofs.Listing.{AreDrawn, written_draft}

-- ---- what holds of the tags holds of the cells

abbrev IsWithin : ℕ → ℕ → ℕ × ℕ → Type 0
IsWithin n most tag = (tag.0 < n) × (tag.1 ≤ most)

with_marks : (f : ℕ → ℕ) (n most : ℕ) (tags : List (ℕ × ℕ)) → ((at : ℕ) → f at ≤ most) → AllByRecursion (λ (tag : ℕ × ℕ). tag.0 < n) tags → AllByRecursion (IsWithin n most) (map (by_mark f) tags)
with_marks f n most [] less all = tt
with_marks f n most (tag ∷ tags) less all = ((all.0, less tag.1), with_marks f n most tags less all.1)

each_within : (n most : ℕ) (cells : List TextCell) (one : TextCell) → AllByRecursion (IsWithin n most) (map tag_of cells) → Has cells one → IsWithin n most (tag_of one)
each_within n most [] one all h = absurd h
each_within n most (c ∷ cells) one all (inl e) = subst (λ (o : TextCell). IsWithin n most (tag_of o)) e all.0
each_within n most (c ∷ cells) one all (inr h) = each_within n most cells one all.1 h

-- ---- the cells of a body

module _ (g : Productions) (leaves : List Leaf) (shapes : List CellShape) (readings : List Reading) (vars : List Occurrence) (tokens : List RuleToken) (k : ℕ) where
  abbrev sides : Bool → Inside → List CellPat
  sides left body = body_cells g leaves shapes readings vars tokens left k body

  -- they are these, on both sides
  pub record AreOfBody (body : Inside) (cells : List TextCell) : Type 0 where
    pub left : spots_of (sides true body) ≡ pictures g leaves shapes readings vars tokens true cells
    pub right : spots_of (sides false body) ≡ pictures g leaves shapes readings vars tokens false cells
    pub rise : Rise 0 (map tag_of cells)
    pub enclosed : AreEnclosed [] cells
    pub within : (one : TextCell) → Has cells one → IsWithin (length shapes) (length tokens) (tag_of one)
    pub held : AllByRecursion (HoldsAsDeclared shapes) cells

  module _ (m : ℕ) (known : AllByRecursion (λ (tag : ℕ × ℕ). tag.0 < length shapes) (opens 0 (take m tokens))) (here : k < length shapes) (plain : is_of_cells shapes k ≡ false) where
    of_cells : (side : Side) → IsWritten shapes (marks (take m tokens)) side → AreOfBody (CellsInside (side_at 0 side)) (side_cells (mark_of tokens) Both None 0 side)
    of_cells side written =
        let tags = side_tags shapes (mark_of tokens) Both None 0 side written.allowed (take m tokens) (sym written.signs_are) in
        record {
          left = side_shown g leaves shapes readings vars tokens true Both None 0 side;
          right = side_shown g leaves shapes readings vars tokens false Both None 0 side;
          rise = subst (Rise 0) (sym tags) (opens_rise (mark_of tokens) 0 (take m tokens) (marks_count tokens m));
          enclosed = side_enclosed (mark_of tokens) Both None 0 side [] tt;
          within = λ one h.
              each_within (length shapes) (length tokens) (side_cells (mark_of tokens) Both None 0 side) one
              (subst (AllByRecursion (IsWithin (length shapes) (length tokens))) (sym tags)
              (with_marks (mark_of tokens) (length shapes) (length tokens) (opens 0 (take m tokens)) (mark_within tokens) known)) h;
          held = side_held shapes (mark_of tokens) Both None 0 side written.allowed;
        }

    -- the one cell of a body that is a content
    abbrev lone_cell : ℕ → ℕ → TextCell
    lone_cell first past = cell_at Both None (mark_of tokens past) (front_held k first past)

    of_content : (first past : ℕ) → AreOfBody (ContentInside first past) (lone_cell first past ∷ [])
    of_content first past = record {
      left = front_shown g leaves shapes readings vars tokens true k first past;
      right = front_shown g leaves shapes readings vars tokens false k first past;
      rise = (omega arith, tt);
      enclosed = (tt, tt);
      within = λ one h. each_within (length shapes) (length tokens) (lone_cell first past ∷ []) one ((here, mark_within tokens past), tt) h;
      held = (plain, tt);
    }

    pub of_body : (bag : Bool) (body : Inside) → IsBodyBy shapes (marks (take m tokens)) bag body → (cells : List TextCell) × AreOfBody body cells
    of_body true body is = (_, subst (λ b. AreOfBody b (side_cells (mark_of tokens) Both None 0 is.0)) (sym is.2) (of_cells is.0 is.1))
    of_body false body is =
        (_, subst (λ b. AreOfBody b (lone_cell 0 (length (marks (take m tokens))) ∷ [])) (sym is) (of_content 0 (length (marks (take m tokens)))))

  drawn : (body : Inside) (cells : List TextCell) (draft : Draft) → AreOfBody body cells → draft.left ≡ sides true body → draft.right ≡ sides false body → length tokens ≤ token_limit
      → AreDrawn (length shapes) cells draft
  drawn body cells draft are left_is right_is few = record {
    left = ap (flat_map (cells_at None)) left_is ∙ as_listed g leaves shapes readings vars tokens true (sides true body) cells are.left;
    right = ap (flat_map (cells_at None)) right_is ∙ as_listed g leaves shapes readings vars tokens false (sides false body) cells are.right;
    rise = are.rise;
    enclosed = are.enclosed;
    declared = λ one h. (are.within one h).0;
    few = λ one h. let less : one.mark ≤ length tokens = (are.within one h).1 in omega (arith, less, few);
  }

-- ---- rules

-- there is a cell for a body that is one content
k_within : (shapes : List CellShape) → 0 < length shapes → cell_k shapes < length shapes
k_within shapes some =
    elim (position_from (λ (cell : CellShape). same_text cell.name (codes "k")) 0 shapes) as (λ o. position_from (λ (cell : CellShape). same_text cell.name (codes "k")) 0 shapes ≡ o → unwrap_or o 0 < length shapes) [
      | None ↦ λ _. some
      | Some found ↦ λ e. let less = position_within (λ (cell : CellShape). same_text cell.name (codes "k")) 0 shapes found e in omega (arith, less)
    ] refl

below : (most n : ℕ) → nat_lt most n ≡ false → n ≤ most
below most n e = grind (arith, nat_tests)

not_over : {X : Type 0} (b : Bool) (x : X) (o : Option X) → cond b (Some x) o ≡ None → b ≡ false
not_over true x o e = absurd (let f : Some x ≡ None = e in cc)
not_over false x o e = refl

few_tokens : (split : RuleSplit) → split_fault split ≡ None → length split.tokens ≤ token_limit
few_tokens split none =
    below token_limit (length split.tokens)
    (not_over (nat_lt token_limit (length split.tokens)) (TooMany RuleTokens (length split.tokens)) (bad_fault split.bad split.wide) none)

-- the words of a rule's tokens
abbrev pub leaves_by : List (Symbol × ℕ) → List RuleToken → List Leaf
leaves_by sorts tokens = leaves_of tokens (map (word_of sorts) tokens)

-- what a draft is made of that is read of a rule
pub record IsMade (d : Declaration) (g : Syntax) (draft : Draft) : Type 0 where
  pub tokens : List RuleToken
  pub sorts : List (Symbol × ℕ)
  pub reading : RuleReading
  pub vars : List Occurrence
  pub are : AreVariables (cell_k d.shapes) (productions_of g) (leaves_by sorts tokens) d.shapes reading vars
  pub is : draft ≡ draft_by (cell_k d.shapes) (productions_of g) (leaves_by sorts tokens) d.shapes tokens reading vars
  pub few : length tokens ≤ token_limit
  pub m : ℕ
  pub bag : Bool
  pub body_is : IsBodyBy d.shapes (marks (take m tokens)) bag reading.body
  pub known : AllByRecursion (λ (tag : ℕ × ℕ). tag.0 < length d.shapes) (opens 0 (take m tokens))

pub made_of : (d : Declaration) (g : Syntax) (before : List (List ℕ)) (text : List ℕ) (tokens : List Token) (rule : Sentence) (after : List (List ℕ)) (draft : Draft)
    → IsRule g d.shapes before text tokens rule after draft → IsMade d g draft
made_of d g before text tokens rule after draft is =
    let split = is.split in
    let formed = is.is.is.is in
    let read = formed.is in
    let m = unwrap_or (condition_word text split.tokens) (length split.tokens) in
    record {
      tokens = split.tokens;
      sorts = is.is.is.sorts;
      reading = read.reading;
      vars = read.is.0;
      are = read.is.1;
      is = read.is.2;
      few = few_tokens split is.is.no_fault;
      m = m;
      bag = _;
      body_is = subst (IsBodyBy d.shapes (marks (take m split.tokens)) _) (sym read.read.body_is) formed.form_is.0;
      known = split_known g d.shapes before text (base_of rule tokens) after split is.split_is 0 m;
    }

module _ (d : Declaration) (g : Syntax) (draft : Draft) (tree : IsTree d) (made : IsMade d g draft) where
  abbrev pub made_leaves : List Leaf
  made_leaves = leaves_by made.sorts made.tokens

  -- the cells of the rule
  pub found : (cells : List TextCell) × AreOfBody (productions_of g) made_leaves d.shapes made.reading.contents made.vars made.tokens (cell_k d.shapes) made.reading.body cells
  found =
      of_body (productions_of g) made_leaves d.shapes made.reading.contents made.vars made.tokens (cell_k d.shapes) made.m made.known (k_within d.shapes tree.some_cell) (k_plain d tree)
      made.bag made.reading.body made.body_is

  pub written_made : IsWrittenDraft d draft
  written_made =
      written_draft d found.0 draft
      (drawn (productions_of g) made_leaves d.shapes made.reading.contents made.vars made.tokens (cell_k d.shapes) made.reading.body found.0 draft found.1
      (ap (λ (it : Draft). it.left) made.is) (ap (λ (it : Draft). it.right) made.is) made.few)

pub written_rule : (d : Declaration) (g : Syntax) (before : List (List ℕ)) (text : List ℕ) (tokens : List Token) (rule : Sentence) (after : List (List ℕ)) (draft : Draft)
    → IsTree d → IsRule g d.shapes before text tokens rule after draft → IsWrittenDraft d draft
written_rule d g before text tokens rule after draft tree is = written_made d g draft tree (made_of d g before text tokens rule after draft is)
