-- What is read of a rule, with the readings of its contents.
use Rattle.std.proofs.Common.{◌≡◌, ℕ, ◌+◌, ◌<◌, ◌≤◌, Bool, true, false, cond, List, map, take, length, Option, Some, None, refl, sym, ap, subst, ◌∙◌, arith}
use Rattle.std.proofs.lemmas.Bool.Decides.{nat_tests}
use Rattle.std.specs.Prelude.{nat_lt, unwrap_or, option_map}
use Rattle.k_lexer.specs.declared.token.Token.{Token}
use Rattle.grammar_terms.specs.Grammar.{Syntax}
use Rattle.grammar_terms.specs.declared.word.Word.{Word}
use Rattle.sorted_grammar.specs.declared.fault.What.TheVariants.{RuleTokens}
use Rattle.file_reader.specs.declared.sentence.Sentence.{Sentence}
use Rattle.live_config.proofs.Members.{Has}
use Rattle.rule_terms.specs.declared.rule.Draft.{Draft}
use Rattle.rule_tokens.specs.declared.split.RuleSplit.{RuleSplit}
use Rattle.rule_cells.specs.declared.form.Inside.{Content as ContentInside}
use Rattle.rule_cells.specs.Forms.{IsBodyBy, condition_word}
use Rattle.rule_cells.specs.Marks.{marks}
use Rattle.rule_contents.specs.Words.{word_of}
use Rattle.rule_drafts.specs.declared.reading.Condition.{Condition}
use Rattle.rule_reader.specs.Contents.{contents_of}
use Rattle.rule_reader.specs.Readings.{AreReadAs, IsConditionAs}
use Rattle.rule_reader.specs.Rules.{IsRule, base_of}
use Rattle.rule_reader.specs.declared.refusal.RuleFault.TheVariants.{TooMany}
use Rattle.rule_reader.specs.Told.{token_limit, bad_fault, split_fault}
use Rattle.cell_trees.specs.Trees.{Tree as Declaration, IsTree}
use Rattle.draft_laws.proofs.Known.{split_known}
use Rattle.draft_laws.proofs.ReadDrafts.{IsMade}
use Rattle.draft_laws.proofs.WrittenCells.{TextCell}
use Rattle.sound_drafts.proofs.TextCells.{text}
use Rattle.sound_drafts.proofs.HeldContents.{held_contents, is_held}
use Rattle.sound_drafts.proofs.HeldReadings.{IsFoundAs, found_as}

below : (most n : ℕ) → nat_lt most n ≡ false → n ≤ most
below most n e = grind (arith, nat_tests)

not_over : {X : Type 0} (b : Bool) (x : X) (o : Option X) → cond b (Some x) o ≡ None → b ≡ false
not_over true x o e = absurd (let f : Some x ≡ None = e in cc)
not_over false x o e = refl

few_tokens : (split : RuleSplit) → split_fault split ≡ None → length split.tokens ≤ token_limit
few_tokens split none =
    below token_limit (length split.tokens)
    (not_over (nat_lt token_limit (length split.tokens)) (TooMany RuleTokens (length split.tokens)) (bad_fault split.bad split.wide) none)

-- the words of a draft's tokens
abbrev pub words_of : (d : Declaration) (g : Syntax) (draft : Draft) → IsMade d g draft → List Word
words_of d g draft made = map (word_of made.sorts) made.tokens

-- what a draft is made of, where its contents have these readings, and its condition begins behind its body
pub record IsRead (d : Declaration) (g : Syntax) (draft : Draft) : Type 0 where
  pub made : IsMade d g draft
  pub contents_are : AreReadAs g d.shapes (words_of d g draft made) (contents_of d.shapes made.reading.body) made.reading.contents
  pub behind : (condition : Condition) → made.reading.condition ≡ Some condition → made.m < condition.first

behind_word : (g : Syntax) (words : List Word) (o : Option ℕ) (size : ℕ) (form : Option (ℕ × ℕ)) (condition : Option Condition) → form ≡ option_map (λ n. (n + 1, size)) o → IsConditionAs g words form condition
    → (c : Condition) → condition ≡ Some c → unwrap_or o size < c.first
behind_word g words o size None None is told c e = absurd (let f : None ≡ Some c = e in cc)
behind_word g words o size None (Some condition) is told c e = absurd told
behind_word g words o size (Some range) None is told c e = absurd told
behind_word g words None size (Some range) (Some condition) is told c e = absurd (let f : Some range ≡ None = is in cc)
behind_word g words (Some n) size (Some range) (Some condition) is told c e =
    let same : range ≡ (n + 1, size) = (let f : Some range ≡ Some (n + 1, size) = is in cc) in
    let one : condition ≡ c = (let f : Some condition ≡ Some c = e in cc) in
    let first : c.first ≡ n + 1 = ap (λ (it : Condition). it.first) (sym one) ∙ told.0 ∙ ap (λ (r : ℕ × ℕ). r.0) same in
    omega (arith, first)

pub read_of : (d : Declaration) (g : Syntax) (before : List (List ℕ)) (text : List ℕ) (tokens : List Token) (rule : Sentence) (after : List (List ℕ)) (draft : Draft)
    → IsRule g d.shapes before text tokens rule after draft → IsRead d g draft
read_of d g before text tokens rule after draft is =
    let split = is.split in
    let formed = is.is.is.is in
    let read = formed.is in
    let m = unwrap_or (condition_word text split.tokens) (length split.tokens) in
    record {
      made = record {
        tokens = split.tokens;
        sorts = is.is.is.sorts;
        reading = read.reading;
        vars = read.is.0;
        are = read.is.1;
        is = read.is.2;
        few = few_tokens split is.is.no_fault;
        m = m;
        bag = _;
        body_is = subst (IsBodyBy d.shapes (marks (take m split.tokens)) _) (sym read.read.body_is) formed.form_is.0;
        known = split_known g d.shapes before text (base_of rule tokens) after split is.split_is 0 m;
      };
      contents_are = subst (λ body. AreReadAs g d.shapes (map (word_of is.is.is.sorts) split.tokens) (contents_of d.shapes body) read.reading.contents) (sym read.read.body_is) read.read.contents_are;
      behind = behind_word g (map (word_of is.is.is.sorts) split.tokens) (condition_word text split.tokens) (length split.tokens) formed.form.condition read.reading.condition formed.form_is.1 read.read.condition_is;
    }

module _ (d : Declaration) (g : Syntax) (draft : Draft) (tree : IsTree d) (read : IsRead d g draft) where
  -- the content of a cell has the reading that is found by its first token
  pub content_read : (one : TextCell) (first past : ℕ) → Has (text d g draft tree read.made).0 one → one.held.inside ≡ ContentInside first past
      → IsFoundAs g d.shapes (words_of d g draft read.made) read.made.reading.contents (record { cell = one.held.cell; on = one.on; first = first; past = past })
  content_read one first past has is =
      let cells = (text d g draft tree read.made).0 in
      let own = (text d g draft tree read.made).1 in
      found_as g d.shapes (words_of d g draft read.made) 0 (read.made.m + 1) (held_contents cells) read.made.reading.contents
      (own.held_as g (words_of d g draft read.made) read.made.reading.contents read.contents_are) own.follow (record { cell = one.held.cell; on = one.on; first = first; past = past })
      (is_held cells one first past has is)
