-- How the contents and the condition of a rule are read.
use Rattle.std.specs.Prelude.{◌≡◌, ◌⊎◌, ℕ, ◌+◌, List, [], ◌∷◌, Option, Some, None, option_map}
use Rattle.k_terms.specs.Sorts.{sort_bool}
use Rattle.grammar_terms.specs.Grammar.{Syntax}
use Rattle.grammar_terms.specs.declared.word.Word.{Word}
use Rattle.rule_terms.specs.declared.defs.CellShape.{CellShape}
use Rattle.rule_tokens.specs.declared.token.RuleToken.{RuleToken}
use Rattle.rule_cells.specs.declared.form.RuleForm.{RuleForm}
use Rattle.rule_contents.specs.declared.reading.ContentFault.{ContentFault}
use Rattle.rule_contents.specs.Contents.{with_content}
use Rattle.rule_contents.specs.Operators.{IsOperatorPlace}
use Rattle.rule_contents.specs.Readings.{IsOnly, IsFault, IsContent, IsContentFault}
use Rattle.rule_drafts.specs.declared.reading.Condition.{Condition}
use Rattle.rule_drafts.specs.declared.reading.Reading.{Reading}
use Rattle.rule_drafts.specs.declared.reading.RuleReading.{RuleReading}
use Rattle.rule_drafts.specs.Cells.{kind_of}
use Rattle.rule_reader.specs.declared.contents.Content.{Content}
use Rattle.rule_reader.specs.declared.refusal.RuleFault.{RuleFault}
use Rattle.rule_reader.specs.Contents.{contents_of}
use Rattle.rule_reader.specs.Places.{between, place_of, condition_place}
use Rattle.rule_reader.specs.Told.{told_content}

-- ---- contents

-- over a grammar for rules and declared cells, where the tokens of a rule are these words
module _ (g : Syntax) (cells : List CellShape) (words : List Word) where
  -- a content has this one reading
  pub record IsReadAs (content : Content) (reading : Reading) : Type 0 where
    pub first_is : reading.first ≡ content.first
    pub is : IsContent (with_content g (kind_of cells content.cell)) (kind_of cells content.cell) content.is_new (between words content.first content.past) reading.form reading.shape
    pub place : Option ℕ
    pub place_is : IsOperatorPlace g (kind_of cells content.cell) reading.form (between words content.first content.past) reading.shape place
    pub operator_is : reading.operator ≡ option_map (λ at. content.first + at) place

  -- each content has its reading
  abbrev pub AreReadAs : List Content → List Reading → Type 0
  AreReadAs [] [] = Unit {0}
  AreReadAs (content ∷ contents) (reading ∷ readings) = IsReadAs content reading × AreReadAs contents readings
  AreReadAs [] (reading ∷ readings) = ⊥
  AreReadAs (content ∷ contents) [] = ⊥

-- and where these tokens stand
module _ (g : Syntax) (cells : List CellShape) (tokens : List RuleToken) (words : List Word) (behind : ℕ) where
  -- a content has a fault
  pub record IsUnreadAs (content : Content) (fault : RuleFault) : Type 0 where
    pub why : ContentFault
    pub is : IsContentFault (with_content g (kind_of cells content.cell)) (kind_of cells content.cell) content.is_new (between words content.first content.past) why
    pub told : fault ≡ told_content (place_of tokens behind content.first) why

  -- the first content that has no reading has this fault
  abbrev pub IsFirstUnread : List Content → RuleFault → Type 0
  IsFirstUnread [] fault = ⊥
  IsFirstUnread (content ∷ contents) fault = IsUnreadAs content fault ⊎ (((reading : Reading) × IsReadAs g cells words content reading) × IsFirstUnread contents fault)

-- ---- the condition

-- where there is one, it has one reading
abbrev pub IsConditionAs : Syntax → List Word → Option (ℕ × ℕ) → Option Condition → Type 0
IsConditionAs g words None None = Unit {0}
IsConditionAs g words (Some range) (Some condition) = (condition.first ≡ range.0) × IsOnly g sort_bool (between words range.0 range.1) condition.shape
IsConditionAs g words None (Some condition) = ⊥
IsConditionAs g words (Some range) None = ⊥

-- or a fault
pub record IsBadCondition (g : Syntax) (tokens : List RuleToken) (words : List Word) (range : ℕ × ℕ) (fault : RuleFault) : Type 0 where
  pub why : ContentFault
  pub is : IsFault g sort_bool (between words range.0 range.1) why
  pub told : fault ≡ told_content (condition_place tokens range.0) why

abbrev pub IsNoCondition : Syntax → List RuleToken → List Word → Option (ℕ × ℕ) → RuleFault → Type 0
IsNoCondition g tokens words None fault = ⊥
IsNoCondition g tokens words (Some range) fault = IsBadCondition g tokens words range fault

-- ---- both

-- a rule of this form was read so
pub record IsReadForm (g : Syntax) (cells : List CellShape) (words : List Word) (at : ℕ) (form : RuleForm) (reading : RuleReading) : Type 0 where
  pub at_is : reading.at ≡ at
  pub body_is : reading.body ≡ form.body
  pub contents_are : AreReadAs g cells words (contents_of cells form.body) reading.contents
  pub condition_is : IsConditionAs g words form.condition reading.condition

-- Why it was not: the first content without one reading, or else the condition.
abbrev pub IsUnreadForm : Syntax → List CellShape → List RuleToken → List Word → ℕ → RuleForm → RuleFault → Type 0
IsUnreadForm g cells tokens words behind form fault =
    IsFirstUnread g cells tokens words behind (contents_of cells form.body) fault
    ⊎ (((readings : List Reading) × AreReadAs g cells words (contents_of cells form.body) readings) × IsNoCondition g tokens words form.condition fault)
