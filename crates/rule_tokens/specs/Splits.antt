-- The text of a rule as tokens.
use Rattle.std.specs.Prelude.{◌≡◌, ℕ, List, map, None}
use Rattle.k_lexer.specs.declared.token.Token.{Token}
use Rattle.grammar_terms.specs.Grammar.{Syntax}
use Rattle.program_tokens.specs.Terminals.{terminals}
use Rattle.program_tokens.specs.Base.{with_tokens}
use Rattle.program_tokens.specs.Splits.{first_place}
use Rattle.rule_terms.specs.declared.defs.CellShape.{CellShape}
use Rattle.rule_tokens.specs.declared.split.RuleSplit.{RuleSplit}
use Rattle.rule_tokens.specs.Forms.{Lexicon}
use Rattle.rule_tokens.specs.RuleTokens.{first_token, AreRuleTokens, first_wide}

-- what the words of rules mean by these terminals, the sorts of a grammar, declared cells and names
abbrev pub lexicon_with : List (List ℕ) → Syntax → List CellShape → List (List ℕ) → Lexicon
lexicon_with texts g cells names = record { terminals = texts; sorts = g.names; cells = map (λ cell. cell.name) cells; names = names }

abbrev pub lexicon_of : Syntax → List CellShape → List (List ℕ) → Lexicon
lexicon_of g cells names = lexicon_with (terminals g) g cells names

-- What the base tokens of a rule are split into, and the names after that, for the names before. Each word among the base
-- tokens is numbered. The tokens go up to a mark at which nothing can stand, the bad place, or to the end.
pub record IsRuleSplit (g : Syntax) (cells : List CellShape) (before : List (List ℕ)) (text : List ℕ) (tokens : List Token) (after : List (List ℕ)) (split : RuleSplit) : Type 0 where
  pub rest : List Token
  pub names : after ≡ with_tokens text before tokens
  pub tokens_are : AreRuleTokens (lexicon_of g cells after) text split.tokens tokens rest
  pub ends : first_token (lexicon_of g cells after) text rest ≡ None
  pub bad : split.bad ≡ first_place rest
  pub wide : split.wide ≡ first_wide text split.tokens
