-- The rules of a definition over its declared cells: the written ones one after the other, and those of strictness.
use Rattle.std.specs.Prelude.{◌≡◌, ◌⊎◌, ℕ, ◌+◌, List, [], ◌∷◌, ◌++◌, length}
use Rattle.std.specs.List.{flat_map}
use Rattle.k_lexer.specs.declared.token.Token.{Token}
use Rattle.grammar_terms.specs.Grammar.{Syntax}
use Rattle.file_reader.specs.declared.sentence.Sentence.{Sentence}
use Rattle.file_reader.specs.declared.sentence.Sentence.TheVariants.{Syntax as SyntaxOf, Config, Rule as RuleOf}
use Rattle.rule_terms.specs.declared.rule.Draft.{Draft}
use Rattle.rule_terms.specs.declared.rule.Rule.{Rule}
use Rattle.rule_reader.specs.declared.refusal.RuleRefusal.{RuleRefusal}
use Rattle.rule_reader.specs.Rules.{IsRule, IsRefused}
use Rattle.cell_trees.specs.Trees.{Tree as Declaration}
use Rattle.rule_completion.specs.Rules.{IsCompleted}
use Rattle.context_transform.specs.declared.fault.CellsUnclear.{CellsUnclear}
use Rattle.context_transform.specs.declared.fault.DefFault.{DefFault}
use Rattle.context_transform.specs.declared.fault.DefFault.TheVariants.{Rule as OfRule, Complete}
use Rattle.context_transform.specs.Completing.{IsUnclear}

-- the rules among sentences
abbrev pub rule_in : Sentence → List Sentence
rule_in (SyntaxOf sort groups) = []
rule_in (Config first past) = []
rule_in (RuleOf at first past) = RuleOf at first past ∷ []

abbrev pub rules_in : List Sentence → List Sentence
rules_in sentences = flat_map rule_in sentences

-- Over a grammar for rules, the declared cells, and a text with its base tokens. Each rule is read with the names after the one
-- before it.
module _ (g : Syntax) (d : Declaration) (text : List ℕ) (tokens : List Token) where
  -- a sentence is this rule: its draft, completed
  abbrev pub IsWrittenRule : List (List ℕ) → Sentence → Rule → List (List ℕ) → Type 0
  IsWrittenRule before sentence rule after =
      (draft : Draft) × IsRule g d.shapes before text tokens sentence after draft × IsCompleted d draft rule

  abbrev pub AreWrittenRules : List (List ℕ) → List Sentence → List Rule → List (List ℕ) → Type 0
  AreWrittenRules before [] [] after = after ≡ before
  AreWrittenRules before (sentence ∷ sentences) (rule ∷ rules) after =
      (names : List (List ℕ)) × IsWrittenRule before sentence rule names × AreWrittenRules names sentences rules after
  AreWrittenRules before sentences rules after = ⊥

  -- the text of a sentence is no rule
  pub record IsRefusedRule (before : List (List ℕ)) (sentence : Sentence) (fault : DefFault) : Type 0 where
    pub refusal : RuleRefusal
    pub after : List (List ℕ)
    pub refused : IsRefused g d.shapes before text tokens sentence after refusal
    pub fault_is : fault ≡ OfRule refusal

  -- the draft of the sentence with this number is completed to none
  pub record IsUnclearRule (before : List (List ℕ)) (number : ℕ) (sentence : Sentence) (fault : DefFault) : Type 0 where
    pub why : CellsUnclear
    pub after : List (List ℕ)
    pub draft : Draft
    pub read : IsRule g d.shapes before text tokens sentence after draft
    pub unclear : IsUnclear d draft number why
    pub fault_is : fault ≡ Complete why

  abbrev pub IsBadRule : List (List ℕ) → ℕ → Sentence → DefFault → Type 0
  IsBadRule before number sentence fault = IsRefusedRule before sentence fault ⊎ IsUnclearRule before number sentence fault

  -- the first of sentences, numbered from one on, that is no rule
  abbrev pub IsFirstBad : List (List ℕ) → ℕ → List Sentence → DefFault → Type 0
  IsFirstBad before number [] fault = ⊥
  IsFirstBad before number (sentence ∷ sentences) fault =
      IsBadRule before number sentence fault
      ⊎ ((names : List (List ℕ)) × (rule : Rule) × IsWrittenRule before sentence rule names × IsFirstBad names (number + 1) sentences fault)

-- each of some drafts is completed to a rule
abbrev pub AreCompleted : Declaration → List Draft → List Rule → Type 0
AreCompleted d [] [] = Unit {0}
AreCompleted d (draft ∷ drafts) (rule ∷ rules) = IsCompleted d draft rule × AreCompleted d drafts rules
AreCompleted d drafts rules = ⊥

-- the first of some drafts, numbered from one on, that is completed to none
abbrev pub IsFirstUnclear : Declaration → ℕ → List Draft → CellsUnclear → Type 0
IsFirstUnclear d number [] why = ⊥
IsFirstUnclear d number (draft ∷ drafts) why =
    IsUnclear d draft number why ⊎ (((rule : Rule) × IsCompleted d draft rule) × IsFirstUnclear d (number + 1) drafts why)

-- ---- all rules

module _ (g : Syntax) (d : Declaration) (text : List ℕ) (tokens : List Token) (before : List (List ℕ)) (sentences : List Sentence) (drafts : List Draft) where
  -- the rules of sentences, and behind them those of drafts
  pub record AreAllRules (rules : List Rule) (after : List (List ℕ)) : Type 0 where
    pub written : List Rule
    pub are_written : AreWrittenRules g d text tokens before sentences written after
    pub behind : List Rule
    pub are_completed : AreCompleted d drafts behind
    pub all : rules ≡ written ++ behind

  -- each sentence is a rule, and a draft is completed to none
  pub record HasUnclearDraft (why : CellsUnclear) : Type 0 where
    pub written : List Rule
    pub after : List (List ℕ)
    pub are_written : AreWrittenRules g d text tokens before sentences written after
    pub unclear : IsFirstUnclear d (length sentences + 1) drafts why

  -- the first of them that is no rule
  abbrev pub IsFirstFault : DefFault → Type 0
  IsFirstFault fault =
      IsFirstBad g d text tokens before 1 sentences fault ⊎ ((why : CellsUnclear) × (fault ≡ Complete why) × HasUnclearDraft why)
