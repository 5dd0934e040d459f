-- The tokens of a configuration.
use Rattle.std.specs.Prelude.{◌≡◌, ℕ, List, [], ◌∷◌, drop, Option, Some, None, unwrap_or}
use Rattle.k_lexer.specs.declared.token.Token.{Token}
use Rattle.grammar_terms.specs.Grammar.{Syntax}
use Rattle.program_tokens.specs.Base.{with_tokens}
use Rattle.program_tokens.specs.Terminals.{terminals}
use Rattle.cell_tokens.specs.declared.token.CellToken.{CellToken}
use Rattle.cell_tokens.specs.Forms.{Lexicon, stands_at, bad_token}

-- the first token of base tokens
abbrev pub first_token : Lexicon → List ℕ → List Token → Option CellToken
first_token lexicon text [] = None
first_token lexicon text (token ∷ tokens) = Some (unwrap_or (stands_at lexicon text token.start (token ∷ tokens)) bad_token)

-- These tokens follow one another in base tokens.
abbrev pub AreCellTokens : Lexicon → List ℕ → List CellToken → List Token → Type 0
AreCellTokens lexicon text [] base = base ≡ []
AreCellTokens lexicon text (token ∷ tokens) base = (first_token lexicon text base ≡ Some token) × AreCellTokens lexicon text tokens (drop token.size base)

-- what words mean by these terminals, the sorts of a grammar and names
abbrev pub lexicon_with : List (List ℕ) → Syntax → List (List ℕ) → Lexicon
lexicon_with texts g names = record { terminals = texts; sorts = g.names; names = names }

abbrev pub lexicon_of : Syntax → List (List ℕ) → Lexicon
lexicon_of g names = lexicon_with (terminals g) g names

-- What base tokens are split into, and the names after that, for the names before. Each word among the base tokens is numbered.
pub record IsCellSplit (g : Syntax) (before : List (List ℕ)) (text : List ℕ) (base : List Token) (after : List (List ℕ)) (tokens : List CellToken) : Type 0 where
  pub names : after ≡ with_tokens text before base
  pub tokens_are : AreCellTokens (lexicon_of g after) text tokens base
