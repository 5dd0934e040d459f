-- The laws of the tokens of configurations.
use Rattle.std.specs.Prelude.{◌≡◌, ℕ, List, take, drop}
use Rattle.k_lexer.specs.declared.token.Token.{Token}
use Rattle.k_lexer.specs.Before.{AllStand}
use Rattle.k_lexer.specs.Lexing.{AreTokens}
use Rattle.grammar_terms.specs.Grammar.{Syntax}
use Rattle.cell_tokens.specs.declared.token.CellToken.{CellToken}
use Rattle.cell_tokens.specs.Lookup.{AllWhole}
use Rattle.cell_tokens.specs.CellTokens.{IsCellSplit}

-- base tokens are split in one way
abbrev pub HasOneCellSplit : Type 0
HasOneCellSplit =
    (g : Syntax) (before : List (List ℕ)) (text : List ℕ) (base : List Token) (after others : List (List ℕ)) (one other : List CellToken)
    → IsCellSplit g before text base after one → IsCellSplit g before text base others other → (after ≡ others) × (one ≡ other)

-- a run of the tokens of a text stands in it, and each is the longest at its place
abbrev pub HasWholeTokens : Type 0
HasWholeTokens =
    (text : List ℕ) (tokens : List Token) (first size : ℕ) → AreTokens text tokens
    → AllStand text (take size (drop first tokens)) × AllWhole text (take size (drop first tokens))
