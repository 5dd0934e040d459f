-- The tokens of a text before a place, and where tokens stand.
use Rattle.std.specs.Prelude.{◌≡◌, ℕ, ◌-◌, ◌≤◌, List, ◌++◌, length, take, drop}
use Rattle.std.specs.List.{AllByRecursion}
use Rattle.k_lexer.specs.declared.token.Token.{Token}
use Rattle.k_lexer.specs.Tokens.{IsToken}
use Rattle.k_lexer.specs.Lexing.{Reaches}

-- the whole list begins with this one
abbrev pub IsFront : List Token → List Token → Type 0
IsFront front whole = (rest : List Token) × (whole ≡ front ++ rest)

-- These tokens lead to a place not past `at`, and all that lead to such a place are a front of them.
pub record AreBefore (text : List ℕ) (at : ℕ) (tokens : List Token) : Type 0 where
  pub place : ℕ
  pub reached : Reaches text tokens place
  pub within : place ≤ at
  pub longest : (others : List Token) (other : ℕ) → Reaches text others other → other ≤ at → IsFront others tokens

-- A token of its kind stands from its start up to its end.
pub record Stands (text : List ℕ) (token : Token) : Type 0 where
  pub order : token.start ≤ token.end
  pub within : token.end ≤ length text
  pub is : IsToken token.kind (take (token.end - token.start) (drop token.start text))

abbrev pub AllStand : List ℕ → List Token → Type 0
AllStand text tokens = AllByRecursion (Stands text) tokens
