-- Places that ask for one token, and not for a sort. They stand where sorts do, with numbers behind those of all sorts.
use Rattle.std.specs.Prelude.{ℕ, ◌+◌, ◌-◌, ◌*◌, ◌^◌, ◌==◌, ◌||◌, Bool, cond, List, Option, Some, None, slice_get}
use Rattle.grammar_terms.specs.declared.word.Word.{Word}
use Rattle.grammar_terms.specs.declared.word.WordKind.{WordKind}
use Rattle.grammar_terms.specs.declared.word.WordKind.TheVariants.{Terminal as TerminalWord, Literal, Variable, Wild, EmptyList}

-- one that asks for a variable without a sort
abbrev pub wild_place : ℕ
wild_place = 2 ^ 31

-- one that asks for `.`
abbrev pub dot_place : ℕ
dot_place = 2 ^ 31 + 1

-- Ones that ask for a terminal of a rule that stands for itself: the arrow of a change, and its parentheses. Such a terminal
-- has the number of these places where a sort has its own; a terminal of a program has none.
abbrev pub rewrite_place : ℕ
rewrite_place = 2 ^ 31 + 2

abbrev pub open_place : ℕ
open_place = 2 ^ 31 + 3

abbrev pub close_place : ℕ
close_place = 2 ^ 31 + 4

-- one that asks for a variable of a sort
abbrev pub variable_place : ℕ → ℕ
variable_place sort = 2 ^ 31 + 5 + 2 * sort

-- one that asks for the empty list of a sort, or the empty sequence, written with the sort
abbrev pub empty_place : ℕ → ℕ
empty_place sort = 2 ^ 31 + 6 + 2 * sort

-- the place of an empty list or sequence that is written with so many bytes
abbrev pub place_of_empty : ℕ → ℕ → Option ℕ
place_of_empty sort bytes = cond (bytes == 0) None (cond (bytes == 1) (Some dot_place) (Some (empty_place sort)))

-- the place of a terminal that has this number
abbrev pub is_of_terminal : ℕ → Bool
is_of_terminal number = number == rewrite_place || (number == open_place || number == close_place)

abbrev pub place_of_terminal : ℕ → Option ℕ
place_of_terminal number = cond (is_of_terminal number) (Some number) None

abbrev pub place_by : WordKind → ℕ → ℕ → Option ℕ
place_by (TerminalWord text) sort bytes = place_of_terminal sort
place_by (Literal value) sort bytes = None
place_by Variable sort bytes = Some (variable_place sort)
place_by Wild sort bytes = Some wild_place
place_by EmptyList sort bytes = place_of_empty sort bytes

-- The place that asks for a token, where there is one.
abbrev pub token_place : Word → Option ℕ
token_place word = place_by word.kind word.sort (word.end - word.start)

abbrev pub token_place_at : List Word → ℕ → Option ℕ
token_place_at words at = elim (slice_get words at) [ None ↦ None | Some word ↦ token_place word ]
