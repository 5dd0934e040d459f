-- What can stand at a place of a rule.
use Rattle.std.specs.Prelude.{ℕ, ◌&&◌, ◌||◌, not, nat_lt, min, pos, zero, suc, Bool, if◌then◌else◌, List, [], ◌∷◌, ◌++◌, length, codes, Option, Some, None, unwrap_or}
use Rattle.std.specs.Str.{bytes_eq}
use Rattle.std.specs.List.{position_from}
use Rattle.k_terms.specs.Names.{number_of}
use Rattle.k_terms.specs.declared.value.Symbol.{Symbol}
use Rattle.k_terms.specs.declared.value.Value.{Int as Number, Str as Text}
use Rattle.k_lexer.specs.declared.token.Kind.{Kind}
use Rattle.k_lexer.specs.declared.token.Kind.TheVariants.{Word as WordToken, Int, Str, Mark as MarkToken}
use Rattle.k_lexer.specs.declared.token.Token.{Token}
use Rattle.production_reader.specs.Lexemes.{span}
use Rattle.production_reader.specs.Allowed.{is_among, is_sort, same_text, text_of_string, number_of as number_in}
use Rattle.grammar_terms.specs.Grammar.{sort_number}
use Rattle.grammar_terms.specs.Values.{literal_of}
use Rattle.program_tokens.specs.Base.{bytes_of}
use Rattle.program_tokens.specs.Words.{greatest, other_word}
use Rattle.rule_tokens.specs.declared.signs.Sign.{Sign}
use Rattle.rule_tokens.specs.declared.signs.Sign.TheVariants.{Word}
use Rattle.rule_tokens.specs.declared.token.RuleKind.{RuleKind}
use Rattle.rule_tokens.specs.declared.token.RuleKind.TheVariants.{Open, Close, Rewrite, Then, MapsTo, Dots, Dot, ListItem, Terminal, Literal, Variable}
use Rattle.rule_tokens.specs.declared.token.Found.{Found}
use Rattle.rule_tokens.specs.Signs.{marks, fits, ends, bytes_at, end_at}

-- What a rule's words may mean: the terminals of the grammar, the names of its sorts and of the declared cells by their
-- numbers, and the words by their symbols' numbers.
pub record Lexicon : Type 0 where
  pub terminals : List (List ℕ)
  pub sorts : List (List ℕ)
  pub cells : List (List ℕ)
  pub names : List (List ℕ)

abbrev pub found : RuleKind → ℕ → Option Found
found kind size = Some (record { kind = kind; size = size })

-- the number of the first declared cell of a name
abbrev pub cell_number : List (List ℕ) → List ℕ → Option ℕ
cell_number cells name = position_from (λ other. bytes_eq other name) 0 cells

-- ---- terminals

-- the place of the last item that passes a test, counted from 1, and 0 where none does
abbrev pub last_place : (ℕ → Bool) → List ℕ → ℕ
last_place test [] = 0
last_place test (item ∷ items) = elim (last_place test items) [ zero ↦ (if test item then 1 else 0) | suc n ↦ suc (suc n) ]

-- of how many base tokens the longest terminal is made: adjacent ones, whose text is one
abbrev pub terminal_size : List (List ℕ) → List ℕ → ℕ → List Token → ℕ
terminal_size terminals text at tokens = last_place (λ end. is_among terminals (span text at end)) (ends at tokens)

abbrev pub terminal_of : List ℕ → ℕ → List Token → ℕ → Option Found
terminal_of text at tokens zero = None
terminal_of text at tokens (suc n) = found (Terminal (span text at (end_at tokens n))) (suc n)

abbrev pub terminal_at : List (List ℕ) → List ℕ → ℕ → List Token → Option Found
terminal_at terminals text at tokens = terminal_of text at tokens (terminal_size terminals text at tokens)

-- ---- marks and tags

-- base tokens of these signs are such a token
abbrev pub signs_at : List ℕ → List Sign → RuleKind → ℕ → List Token → Option Found
signs_at text signs kind at tokens = if fits text signs at tokens then found kind (length signs) else None

abbrev pub open_at : List (List ℕ) → List ℕ → ℕ → List Token → Option Found
open_at cells text at tokens =
    if fits text (marks (codes "<") ++ Word ∷ marks (codes ">")) at tokens
    then elim (cell_number cells (bytes_at text tokens 1)) [ Some cell ↦ found (Open cell) 3 | None ↦ None ] else None

abbrev pub close_at : List (List ℕ) → List ℕ → ℕ → List Token → Option Found
close_at cells text at tokens =
    if fits text (marks (codes "</") ++ Word ∷ marks (codes ">")) at tokens
    then elim (cell_number cells (bytes_at text tokens 2)) [ Some cell ↦ found (Close cell) 4 | None ↦ None ] else None

-- `.S`
abbrev pub empty_at : List (List ℕ) → List ℕ → ℕ → List Token → Option Found
empty_at sorts text at tokens =
    if fits text (marks (codes ".") ++ Word ∷ []) at tokens
    then elim (sort_number sorts (bytes_at text tokens 1)) [ Some sort ↦ found (Dot (Some sort)) 2 | None ↦ None ] else None

-- ---- words

-- `_` gives a variable no name
abbrev pub is_wild : List ℕ → Bool
is_wild word = same_text word (codes "_")

-- a word stands for a variable where it is `_`, or begins with A to Z and is no terminal
abbrev pub is_variable : List (List ℕ) → List ℕ → Bool
is_variable terminals word = is_wild word || is_sort word && not (is_among terminals word)

abbrev pub name_of : List (List ℕ) → List ℕ → Option Symbol
name_of names word = if is_wild word then None else Some (record { 0 = unwrap_or (number_of names word) 0 })

-- a variable without a sort
abbrev pub variable_at : List (List ℕ) → List (List ℕ) → List ℕ → ℕ → List Token → Option Found
variable_at terminals names text at tokens =
    if fits text (Word ∷ []) at tokens && is_variable terminals (bytes_at text tokens 0)
    then found (Variable (name_of names (bytes_at text tokens 0)) None) 1 else None

-- a variable with a sort
abbrev pub sorted_at : List (List ℕ) → List (List ℕ) → List (List ℕ) → List ℕ → ℕ → List Token → Option Found
sorted_at terminals sorts names text at tokens =
    if fits text (Word ∷ marks (codes ":") ++ Word ∷ []) at tokens && is_variable terminals (bytes_at text tokens 0)
    then elim (sort_number sorts (bytes_at text tokens 2)) [
      | Some sort ↦ found (Variable (name_of names (bytes_at text tokens 0)) (Some sort)) 3
      | None ↦ None
    ] else None

abbrev pub list_item_at : List ℕ → ℕ → List Token → Option Found
list_item_at text at tokens = if fits text (Word ∷ []) at tokens && same_text (bytes_at text tokens 0) (codes "ListItem") then found ListItem 1 else None

-- a literal or an identifier, as in a program
abbrev pub literal_as : Kind → List (List ℕ) → List ℕ → Token → Option Found
literal_as WordToken names text token = found (Literal (literal_of (other_word names token (bytes_of text token)).kind)) 1
literal_as Int names text token = found (Literal (Number (pos (min (number_in (bytes_of text token)) greatest)))) 1
literal_as Str names text token = found (Literal (Text (text_of_string (bytes_of text token)))) 1
literal_as MarkToken names text token = None

abbrev pub literal_at : List (List ℕ) → List ℕ → List Token → Option Found
literal_at names text [] = None
literal_at names text (token ∷ tokens) = literal_as token.kind names text token

-- ---- the longest

-- the longer of two, and the first where they are as long
abbrev pub longer : Option Found → Option Found → Option Found
longer None other = other
longer (Some one) None = Some one
longer (Some one) (Some other) = if nat_lt one.size other.size then Some other else Some one

abbrev pub longest : List (Option Found) → Option Found
longest [] = None
longest (one ∷ []) = one
longest (one ∷ other ∷ others) = longer one (longest (other ∷ others))

abbrev pub symbol_at : List ℕ → ℕ → List Token → Option Found
symbol_at text at tokens =
    longest (signs_at text (marks (codes "=>")) Rewrite at tokens ∷ signs_at text (marks (codes "~>")) Then at tokens
    ∷ signs_at text (marks (codes "|->")) MapsTo at tokens ∷ signs_at text (marks (codes "...")) Dots at tokens
    ∷ signs_at text (marks (codes ".")) (Dot None) at tokens ∷ [])

-- what stands at a place beside terminals: the longest, and the first in this order where several are as long
abbrev pub other_at : Lexicon → List ℕ → ℕ → List Token → Option Found
other_at l text at tokens =
    longest (symbol_at text at tokens ∷ open_at l.cells text at tokens ∷ close_at l.cells text at tokens ∷ empty_at l.sorts text at tokens
    ∷ sorted_at l.terminals l.sorts l.names text at tokens ∷ list_item_at text at tokens ∷ variable_at l.terminals l.names text at tokens
    ∷ literal_at l.names text tokens ∷ [])

-- What stands at a place: the longest of all that can stand there, and a terminal where it is as long as another.
abbrev pub stands_at : Lexicon → List ℕ → ℕ → List Token → Option Found
stands_at l text at tokens = longer (terminal_at l.terminals text at tokens) (other_at l text at tokens)
