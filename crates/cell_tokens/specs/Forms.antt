-- What can stand at a place of a configuration.
use Rattle.std.specs.Prelude.{ℕ, ◌+◌, ◌&&◌, nat_lt, pos, zero, suc, Bool, if◌then◌else◌, List, [], ◌∷◌, ◌++◌, length, drop, codes, Option, Some, None, option_map}
use Rattle.k_terms.specs.Sorts.{sort_k, sort_map, sort_list}
use Rattle.k_terms.specs.declared.value.Value.{Int as Number, Str as Text}
use Rattle.k_lexer.specs.declared.token.Kind.{Kind}
use Rattle.k_lexer.specs.declared.token.Kind.TheVariants.{Word as WordToken, Int, Str, Mark as MarkToken}
use Rattle.k_lexer.specs.declared.token.Token.{Token}
use Rattle.production_reader.specs.Lexemes.{span}
use Rattle.production_reader.specs.Allowed.{is_among, same_text, text_of_string, number_of as number_in}
use Rattle.grammar_terms.specs.Grammar.{sort_number}
use Rattle.grammar_terms.specs.Values.{literal_of}
use Rattle.program_tokens.specs.Base.{bytes_of}
use Rattle.program_tokens.specs.Words.{are_wide, other_word}
use Rattle.cell_tokens.specs.declared.signs.Sign.{Sign}
use Rattle.cell_tokens.specs.declared.signs.Sign.TheVariants.{Word}
use Rattle.cell_tokens.specs.declared.token.CellKind.{CellKind}
use Rattle.cell_tokens.specs.declared.token.CellKind.TheVariants.{Open, Close, Program, Input, Then, MapsTo, Dot, ListItem, LeftBracket, RightBracket, Terminal, Literal, Bad}
use Rattle.cell_tokens.specs.declared.token.CellToken.{CellToken}
use Rattle.cell_tokens.specs.Signs.{marks, fits, ends, bytes_at, end_at}
use Rattle.cell_tokens.specs.Tags.{attributes}

-- What the words of a configuration may mean: the terminals of the grammar, the names of its sorts by their numbers, and the
-- words by their symbols' numbers.
pub record Lexicon : Type 0 where
  pub terminals : List (List ℕ)
  pub sorts : List (List ℕ)
  pub names : List (List ℕ)

abbrev pub found : CellKind → ℕ → Option CellToken
found kind size = Some (record { kind = kind; size = size })

-- ---- terminals

-- the place of the last item that passes a test, counted from 1, and 0 where none does
abbrev pub last_place : (ℕ → Bool) → List ℕ → ℕ
last_place test [] = 0
last_place test (item ∷ items) = elim (last_place test items) [ zero ↦ (if test item then 1 else 0) | suc n ↦ suc (suc n) ]

-- of how many base tokens the longest terminal is made: adjacent ones, whose text is one
abbrev pub terminal_size : List (List ℕ) → List ℕ → ℕ → List Token → ℕ
terminal_size terminals text at tokens = last_place (λ end. is_among terminals (span text at end)) (ends at tokens)

abbrev pub terminal_of : List ℕ → ℕ → List Token → ℕ → Option CellToken
terminal_of text at tokens zero = None
terminal_of text at tokens (suc n) = found (Terminal (span text at (end_at tokens n))) (suc n)

abbrev pub terminal_at : List (List ℕ) → List ℕ → ℕ → List Token → Option CellToken
terminal_at terminals text at tokens = terminal_of text at tokens (terminal_size terminals text at tokens)

-- ---- marks

-- base tokens of these signs are such a token
abbrev pub signs_at : List ℕ → List Sign → CellKind → ℕ → List Token → Option CellToken
signs_at text signs kind at tokens = if fits text signs at tokens then found kind (length signs) else None

-- ---- tags

abbrev pub tag_found : List ℕ → Bool × ℕ → CellToken
tag_found name rest = record { kind = Open name rest.0; size = 2 + rest.1 }

abbrev pub open_at : List ℕ → ℕ → List Token → Option CellToken
open_at text at tokens =
    if fits text (marks (codes "<") ++ Word ∷ []) at tokens then option_map (tag_found (bytes_at text tokens 1)) (attributes text (end_at tokens 1) (drop 2 tokens)) else None

abbrev pub close_at : List ℕ → ℕ → List Token → Option CellToken
close_at text at tokens = if fits text (marks (codes "</") ++ Word ∷ marks (codes ">")) at tokens then found (Close (bytes_at text tokens 2)) 4 else None

-- ---- `$PGM:S`, `$IN:List`, `.K`, `.Map`, `.List`

abbrev pub in_place : List Sign
in_place = marks (codes "$") ++ Word ∷ marks (codes ":") ++ Word ∷ []

abbrev pub program_at : List (List ℕ) → List ℕ → ℕ → List Token → Option CellToken
program_at sorts text at tokens =
    if fits text in_place at tokens && same_text (bytes_at text tokens 1) (codes "PGM")
    then elim (sort_number sorts (bytes_at text tokens 3)) [ Some sort ↦ found (Program sort) 4 | None ↦ None ] else None

abbrev pub input_at : List ℕ → ℕ → List Token → Option CellToken
input_at text at tokens =
    if fits text in_place at tokens && same_text (bytes_at text tokens 1) (codes "IN") && same_text (bytes_at text tokens 3) (codes "List") then found Input 4 else None

-- the sorts of which an empty content may be written
abbrev pub empty_sort : List ℕ → Option ℕ
empty_sort word =
    if same_text word (codes "K") then Some sort_k else (if same_text word (codes "Map") then Some sort_map else (if same_text word (codes "List") then Some sort_list else None))

abbrev pub empty_at : List ℕ → ℕ → List Token → Option CellToken
empty_at text at tokens =
    if fits text (marks (codes ".") ++ Word ∷ []) at tokens
    then elim (empty_sort (bytes_at text tokens 1)) [ Some sort ↦ found (Dot (Some sort)) 2 | None ↦ None ] else None

-- ---- words

abbrev pub list_item_at : List ℕ → ℕ → List Token → Option CellToken
list_item_at text at tokens = if fits text (Word ∷ []) at tokens && same_text (bytes_at text tokens 0) (codes "ListItem") then found ListItem 1 else None

-- a number that is not above the greatest
abbrev pub number_as : List ℕ → Option CellToken
number_as digits = if are_wide digits then None else found (Literal (Number (pos (number_in digits)))) 1

-- a literal or an identifier, as in a program
abbrev pub literal_as : Kind → List (List ℕ) → List ℕ → Token → Option CellToken
literal_as WordToken names text token = found (Literal (literal_of (other_word names token (bytes_of text token)).kind)) 1
literal_as Int names text token = number_as (bytes_of text token)
literal_as Str names text token = found (Literal (Text (text_of_string (bytes_of text token)))) 1
literal_as MarkToken names text token = None

abbrev pub literal_at : List (List ℕ) → List ℕ → List Token → Option CellToken
literal_at names text [] = None
literal_at names text (token ∷ tokens) = literal_as token.kind names text token

-- ---- the longest

-- the longer of two, and the first where they are as long
abbrev pub longer : Option CellToken → Option CellToken → Option CellToken
longer None other = other
longer (Some one) None = Some one
longer (Some one) (Some other) = if nat_lt one.size other.size then Some other else Some one

abbrev pub longest : List (Option CellToken) → Option CellToken
longest [] = None
longest (one ∷ []) = one
longest (one ∷ other ∷ others) = longer one (longest (other ∷ others))

abbrev pub symbol_at : List ℕ → ℕ → List Token → Option CellToken
symbol_at text at tokens =
    longest (signs_at text (marks (codes "~>")) Then at tokens ∷ signs_at text (marks (codes "|->")) MapsTo at tokens ∷ signs_at text (marks (codes ".")) (Dot None) at tokens
    ∷ signs_at text (marks (codes "(")) LeftBracket at tokens ∷ signs_at text (marks (codes ")")) RightBracket at tokens ∷ [])

-- what stands at a place beside terminals: the longest, and the first in this order where several are as long
abbrev pub other_at : Lexicon → List ℕ → ℕ → List Token → Option CellToken
other_at l text at tokens =
    longest (symbol_at text at tokens ∷ open_at text at tokens ∷ close_at text at tokens ∷ program_at l.sorts text at tokens ∷ input_at text at tokens
    ∷ empty_at text at tokens ∷ list_item_at text at tokens ∷ literal_at l.names text tokens ∷ [])

-- What stands at a place: the longest of all that can stand there, and a terminal where it is as long as another.
abbrev pub stands_at : Lexicon → List ℕ → ℕ → List Token → Option CellToken
stands_at l text at tokens = longer (terminal_at l.terminals text at tokens) (other_at l text at tokens)

-- one base token with which nothing can begin
abbrev pub bad_token : CellToken
bad_token = record { kind = Bad; size = 1 }
