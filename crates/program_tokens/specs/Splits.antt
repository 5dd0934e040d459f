-- The text of a program as words of a grammar.
use Rattle.std.specs.Prelude.{◌≡◌, ℕ, List, [], ◌∷◌, Option, Some, None}
use Rattle.std.specs.Option.{option_or}
use Rattle.k_lexer.specs.declared.token.Token.{Token}
use Rattle.grammar_terms.specs.Grammar.{Syntax}
use Rattle.program_tokens.specs.declared.split.Split.{Split}
use Rattle.program_tokens.specs.Terminals.{terminals}
use Rattle.program_tokens.specs.Base.{IsBase, with_tokens}
use Rattle.program_tokens.specs.Words.{first_word, AreWords, first_wide}

-- the place of the first token, where there is one
abbrev pub first_place : List Token → Option ℕ
first_place [] = None
first_place (token ∷ tokens) = Some token.start

-- What a text is split into, and the names after that, for the names before. Each word among the base tokens is numbered.
-- The words go up to a mark with which no terminal begins, or to the end of the base tokens: the bad place is that of such
-- a mark, else that of the fault of the text, before which all base tokens stand.
pub record IsSplit (g : Syntax) (before : List (List ℕ)) (text : List ℕ) (after : List (List ℕ)) (split : Split) : Type 0 where
  pub tokens : List Token
  pub fault : Option ℕ
  pub rest : List Token
  pub base : IsBase text tokens fault
  pub names : after ≡ with_tokens text before tokens
  pub words : AreWords (terminals g) after text split.words tokens rest
  pub ends : first_word (terminals g) after text rest ≡ None
  pub bad : split.bad ≡ option_or (first_place rest) fault
  pub wide : split.wide ≡ first_wide text split.words
