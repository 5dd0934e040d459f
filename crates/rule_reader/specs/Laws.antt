-- The laws of rules.
use Rattle.std.specs.Prelude.{◌≡◌, ℕ, List}
use Rattle.k_lexer.specs.declared.token.Token.{Token}
use Rattle.grammar_terms.specs.Grammar.{Syntax}
use Rattle.file_reader.specs.declared.sentence.Sentence.{Sentence}
use Rattle.rule_terms.specs.declared.defs.CellShape.{CellShape}
use Rattle.rule_terms.specs.declared.rule.Draft.{Draft}
use Rattle.rule_reader.specs.declared.refusal.RuleRefusal.{RuleRefusal}
use Rattle.rule_reader.specs.Rules.{IsRule, IsRefused}

-- a rule is one draft
abbrev pub HasOneDraft : Type 0
HasOneDraft =
    (g : Syntax) (cells : List CellShape) (before : List (List ℕ)) (text : List ℕ) (tokens : List Token) (rule : Sentence) (after later : List (List ℕ)) (one other : Draft)
    → IsRule g cells before text tokens rule after one → IsRule g cells before text tokens rule later other → (after ≡ later) × (one ≡ other)

-- or it has one refusal
abbrev pub HasOneRefusal : Type 0
HasOneRefusal =
    (g : Syntax) (cells : List CellShape) (before : List (List ℕ)) (text : List ℕ) (tokens : List Token) (rule : Sentence) (after later : List (List ℕ)) (one other : RuleRefusal)
    → IsRefused g cells before text tokens rule after one → IsRefused g cells before text tokens rule later other → (after ≡ later) × (one ≡ other)

-- never both
abbrev pub HasNotBoth : Type 0
HasNotBoth =
    (g : Syntax) (cells : List CellShape) (before : List (List ℕ)) (text : List ℕ) (tokens : List Token) (rule : Sentence) (after later : List (List ℕ)) (draft : Draft) (refusal : RuleRefusal)
    → IsRule g cells before text tokens rule after draft → IsRefused g cells before text tokens rule later refusal → ⊥
