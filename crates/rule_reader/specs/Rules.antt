-- What the text of a rule is: its draft, or why it is none.
use Rattle.std.specs.Prelude.{◌≡◌, ◌⊎◌, ℕ, false, List, [], map, Some, None}
use Rattle.k_lexer.specs.declared.token.Token.{Token}
use Rattle.k_terms.specs.declared.value.Symbol.{Symbol}
use Rattle.grammar_terms.specs.Grammar.{Syntax}
use Rattle.file_reader.specs.declared.sentence.Sentence.{Sentence}
use Rattle.file_reader.specs.declared.sentence.Sentence.TheVariants.{Syntax as SyntaxOf, Config, Rule as RuleOf}
use Rattle.rule_terms.specs.declared.defs.CellShape.{CellShape}
use Rattle.rule_terms.specs.declared.rule.Draft.{Draft}
use Rattle.rule_tokens.specs.declared.token.RuleToken.{RuleToken}
use Rattle.rule_tokens.specs.declared.split.RuleSplit.{RuleSplit}
use Rattle.rule_tokens.specs.declared.sorts.VariableFault.{VariableFault}
use Rattle.rule_tokens.specs.Splits.{IsRuleSplit}
use Rattle.rule_tokens.specs.Variables.{variables, AreSorts, IsVariableFault}
use Rattle.rule_cells.specs.declared.form.FormFault.{FormFault}
use Rattle.rule_cells.specs.declared.form.RuleForm.{RuleForm}
use Rattle.rule_cells.specs.Forms.{IsForm, IsFormFault}
use Rattle.rule_contents.specs.Words.{word_of}
use Rattle.rule_drafts.specs.declared.fault.DraftFault.{DraftFault}
use Rattle.rule_drafts.specs.declared.reading.RuleReading.{RuleReading}
use Rattle.rule_drafts.specs.Drafts.{IsDraft, IsDraftFault}
use Rattle.rule_parts.specs.Productions.{productions_of}
use Rattle.rule_reader.specs.declared.refusal.RuleFault.{RuleFault}
use Rattle.rule_reader.specs.declared.refusal.RuleFault.TheVariants.{Memory}
use Rattle.rule_reader.specs.declared.refusal.RuleRefusal.{RuleRefusal}
use Rattle.rule_reader.specs.Places.{between, base_place}
use Rattle.rule_reader.specs.Contents.{cell_k}
use Rattle.rule_reader.specs.Told.{is_memory, split_fault, told_variable, told_form, told_draft}
use Rattle.rule_reader.specs.Readings.{IsReadForm, IsUnreadForm}

-- Over a grammar for rules, declared cells and the names with the words of a rule: the tokens of the rule in a text, the place
-- of its word `rule`, and the place behind it. Each phase is asked for where those before it were passed.
module _ (g : Syntax) (cells : List CellShape) (names : List (List ℕ)) (text : List ℕ) (tokens : List RuleToken) (at behind : ℕ) where
  -- ---- the draft of a rule of a form

  pub record IsReadDraft (sorts : List (Symbol × ℕ)) (form : RuleForm) (draft : Draft) : Type 0 where
    pub reading : RuleReading
    pub read : IsReadForm g cells (map (word_of sorts) tokens) at form reading
    pub is : IsDraft (cell_k cells) (productions_of g) cells tokens (map (word_of sorts) tokens) reading draft

  pub record HasDraftFault (sorts : List (Symbol × ℕ)) (form : RuleForm) (fault : RuleFault) : Type 0 where
    pub reading : RuleReading
    pub read : IsReadForm g cells (map (word_of sorts) tokens) at form reading
    pub why : DraftFault
    pub is : IsDraftFault (cell_k cells) (productions_of g) cells tokens (map (word_of sorts) tokens) reading why
    pub told : fault ≡ told_draft names tokens behind why

  abbrev pub HasReadFault : List (Symbol × ℕ) → RuleForm → RuleFault → Type 0
  HasReadFault sorts form fault = IsUnreadForm g cells tokens (map (word_of sorts) tokens) behind form fault ⊎ HasDraftFault sorts form fault

  -- ---- the draft of a rule whose named variables have these sorts

  pub record IsFormedDraft (sorts : List (Symbol × ℕ)) (draft : Draft) : Type 0 where
    pub form : RuleForm
    pub form_is : IsForm cells text tokens form
    pub is : IsReadDraft sorts form draft

  pub record HasNoForm (fault : RuleFault) : Type 0 where
    pub why : FormFault
    pub is : IsFormFault cells text tokens why
    pub told : fault ≡ told_form why

  pub record HasLaterFault (sorts : List (Symbol × ℕ)) (fault : RuleFault) : Type 0 where
    pub form : RuleForm
    pub form_is : IsForm cells text tokens form
    pub is : HasReadFault sorts form fault

  abbrev pub HasFormedFault : List (Symbol × ℕ) → RuleFault → Type 0
  HasFormedFault sorts fault = HasNoForm fault ⊎ HasLaterFault sorts fault

  -- ---- the draft of these tokens

  pub record IsTokensDraft (draft : Draft) : Type 0 where
    pub sorts : List (Symbol × ℕ)
    pub sorts_are : AreSorts (variables tokens) sorts
    pub is : IsFormedDraft sorts draft

  pub record HasNoSorts (fault : RuleFault) : Type 0 where
    pub why : VariableFault
    pub is : IsVariableFault (variables tokens) why
    pub told : fault ≡ told_variable g names why

  pub record HasSortedFault (fault : RuleFault) : Type 0 where
    pub sorts : List (Symbol × ℕ)
    pub sorts_are : AreSorts (variables tokens) sorts
    pub is : HasFormedFault sorts fault

  abbrev pub HasTokensFault : RuleFault → Type 0
  HasTokensFault fault = HasNoSorts fault ⊎ HasSortedFault fault

-- the draft of what a rule's text was split into
pub record IsSplitDraft (g : Syntax) (cells : List CellShape) (names : List (List ℕ)) (text : List ℕ) (split : RuleSplit) (at behind : ℕ) (draft : Draft) : Type 0 where
  pub no_fault : split_fault split ≡ None
  pub is : IsTokensDraft g cells names text split.tokens at behind draft

pub record HasInnerFault (g : Syntax) (cells : List CellShape) (names : List (List ℕ)) (text : List ℕ) (split : RuleSplit) (at behind : ℕ) (fault : RuleFault) : Type 0 where
  pub no_fault : split_fault split ≡ None
  pub is : HasTokensFault g cells names text split.tokens at behind fault

abbrev pub HasSplitFault : Syntax → List CellShape → List (List ℕ) → List ℕ → RuleSplit → ℕ → ℕ → RuleFault → Type 0
HasSplitFault g cells names text split at behind fault = (split_fault split ≡ Some fault) ⊎ HasInnerFault g cells names text split at behind fault

-- ---- rules

-- a sentence is a rule
abbrev pub IsRuleSentence : Sentence → Type 0
IsRuleSentence (RuleOf at first past) = Unit {0}
IsRuleSentence (SyntaxOf sort groups) = ⊥
IsRuleSentence (Config first past) = ⊥

abbrev pub rule_at : Sentence → ℕ
rule_at (RuleOf at first past) = at
rule_at (SyntaxOf sort groups) = 0
rule_at (Config first past) = 0

-- the base tokens of a rule's text, and the place of the one behind them
abbrev pub base_of : Sentence → List Token → List Token
base_of (RuleOf at first past) tokens = between tokens first past
base_of (SyntaxOf sort groups) tokens = []
base_of (Config first past) tokens = []

abbrev pub behind_of : Sentence → List ℕ → List Token → ℕ
behind_of (RuleOf at first past) text tokens = base_place text tokens past
behind_of (SyntaxOf sort groups) text tokens = 0
behind_of (Config first past) text tokens = 0

module _ (g : Syntax) (cells : List CellShape) (before : List (List ℕ)) (text : List ℕ) (tokens : List Token) (rule : Sentence) (after : List (List ℕ)) where
  -- The rule of a text with these tokens is this draft. The names go on by the words of its text.
  pub record IsRule (draft : Draft) : Type 0 where
    pub split : RuleSplit
    pub split_is : IsRuleSplit g cells before text (base_of rule tokens) after split
    pub is : IsSplitDraft g cells after text split (rule_at rule) (behind_of rule text tokens) draft

  -- The rule is refused so, by the first fault in the order of the phases.
  pub record IsRefused (refusal : RuleRefusal) : Type 0 where
    pub split : RuleSplit
    pub split_is : IsRuleSplit g cells before text (base_of rule tokens) after split
    pub at_is : refusal.at ≡ rule_at rule
    pub proper : is_memory refusal.fault ≡ false
    pub is : HasSplitFault g cells after text split (rule_at rule) (behind_of rule text tokens) refusal.fault

-- memory was wanting where a rule was read
abbrev pub IsWant : Sentence → RuleRefusal → Type 0
IsWant rule refusal = refusal ≡ record { at = rule_at rule; fault = Memory }
