-- The laws of the tokens of rules.
use Rattle.std.specs.Prelude.{◌≡◌, ◌⊎◌, ℕ, List, take, drop, Option, Some, None}
use Rattle.std.specs.List.{AllByRecursion}
use Rattle.k_terms.specs.Names.{number_of}
use Rattle.k_terms.specs.declared.value.Value.{Value, Id}
use Rattle.k_lexer.specs.Before.{AllStand}
use Rattle.production_reader.specs.Lexemes.{span}
use Rattle.rule_tokens.specs.declared.token.RuleKind.{RuleKind}
use Rattle.rule_tokens.specs.declared.token.RuleKind.TheVariants.{Literal, Variable}
use Rattle.k_terms.specs.declared.value.Symbol.{Symbol}
use Rattle.k_lexer.specs.declared.token.Token.{Token}
use Rattle.k_lexer.specs.Lexing.{AreTokens}
use Rattle.grammar_terms.specs.Grammar.{Syntax}
use Rattle.rule_terms.specs.declared.defs.CellShape.{CellShape}
use Rattle.rule_tokens.specs.declared.sorts.Named.{Named}
use Rattle.rule_tokens.specs.declared.sorts.VariableFault.{VariableFault}
use Rattle.rule_tokens.specs.declared.sorts.VariableFault.TheVariants.{Memory}
use Rattle.rule_tokens.specs.declared.split.RuleSplit.{RuleSplit}
use Rattle.rule_tokens.specs.RuleTokens.{AllWhole}
use Rattle.rule_tokens.specs.Splits.{IsRuleSplit}
use Rattle.rule_tokens.specs.Variables.{AreSorts, IsVariableFault}

-- base tokens are split in one way
abbrev pub HasOneRuleSplit : Type 0
HasOneRuleSplit =
    (g : Syntax) (cells : List CellShape) (before : List (List ℕ)) (text : List ℕ) (tokens : List Token) (after others : List (List ℕ)) (one other : RuleSplit)
    → IsRuleSplit g cells before text tokens after one → IsRuleSplit g cells before text tokens others other → (after ≡ others) × (one ≡ other)

-- an identifier has the number of these bytes among the names
abbrev pub IsSymbol : List (List ℕ) → List ℕ → Value → Type 0
IsSymbol names bytes (Id symbol) = number_of names bytes ≡ Some symbol.0
IsSymbol names bytes _ = Unit {0}

-- a name has the number of a word with which these bytes begin
abbrev pub IsNameOf : List (List ℕ) → List ℕ → Option Symbol → Type 0
IsNameOf names bytes None = Unit {0}
IsNameOf names bytes (Some symbol) = (size : ℕ) × (number_of names (take size bytes) ≡ Some symbol.0)

abbrev pub IsNamed : List (List ℕ) → List ℕ → RuleKind → Type 0
IsNamed names bytes (Literal value) = IsSymbol names bytes value
IsNamed names bytes (Variable name sort) = IsNameOf names bytes name
IsNamed names bytes _ = Unit {0}

-- each identifier has the number of its word, and each named variable that of the word with which it begins
abbrev pub HasRuleSymbols : Type 0
HasRuleSymbols =
    (g : Syntax) (cells : List CellShape) (before : List (List ℕ)) (text : List ℕ) (tokens : List Token) (after : List (List ℕ)) (split : RuleSplit)
    → AllStand text tokens → IsRuleSplit g cells before text tokens after split
    → AllByRecursion (λ token. IsNamed after (span text token.start token.end) token.kind) split.tokens

-- a run of the tokens of a text stands in it, and each is the longest at its place
abbrev pub HasWholeTokens : Type 0
HasWholeTokens =
    (text : List ℕ) (tokens : List Token) (first size : ℕ) → AreTokens text tokens
    → AllStand text (take size (drop first tokens)) × AllWhole text (take size (drop first tokens))

-- the named variables have sorts in one way
abbrev pub HasOneSorts : Type 0
HasOneSorts = (variables : List Named) (one other : List (Symbol × ℕ)) → AreSorts variables one → AreSorts variables other → one ≡ other

-- and then no fault
abbrev pub HasSortsOrFault : Type 0
HasSortsOrFault = (variables : List Named) (sorts : List (Symbol × ℕ)) (fault : VariableFault) → AreSorts variables sorts → IsVariableFault variables fault → fault ≡ Memory

-- they have one fault, beside want of memory
abbrev pub HasOneVariableFault : Type 0
HasOneVariableFault =
    (variables : List Named) (one other : VariableFault) → IsVariableFault variables one → IsVariableFault variables other → (one ≡ Memory) ⊎ (other ≡ Memory) ⊎ (one ≡ other)
