-- The words of a program.
use Rattle.std.specs.Prelude.{◌≡◌, ◌≤◌, length, ℕ, ◌+◌, ◌-◌, ◌^◌, ◌==◌, ◌&&◌, Bool, true, false, min, nat_le, if◌then◌else◌, zero, suc, List, [], ◌∷◌, take, drop, codes, Option, Some, None, option_map, unwrap_or, pos}
use Rattle.std.specs.List.{find}
use Rattle.k_terms.specs.Sorts.{sort_int, sort_bool, sort_string, sort_id}
use Rattle.k_terms.specs.Names.{number_of}
use Rattle.k_terms.specs.declared.value.Value.{Value, Int as Number, Bool as Truth, Str as Text, Id}
use Rattle.k_lexer.specs.declared.token.Kind.{Kind}
use Rattle.k_lexer.specs.declared.token.Kind.TheVariants.{Word as WordToken, Int, Str, Mark}
use Rattle.k_lexer.specs.declared.token.Token.{Token}
use Rattle.production_reader.specs.Lexemes.{span}
use Rattle.production_reader.specs.Allowed.{is_among, same_text, text_of_string, number_of as number_in}
use Rattle.grammar_terms.specs.declared.word.Word.{Word}
use Rattle.grammar_terms.specs.declared.word.WordKind.TheVariants.{Terminal, Literal}
use Rattle.program_tokens.specs.Terminals.{longest}
use Rattle.program_tokens.specs.Base.{bytes_of}

-- the greatest number
abbrev pub greatest : ℕ
greatest = 2 ^ 127 - 1

-- digits that say a greater number
abbrev pub are_wide : List ℕ → Bool
are_wide digits = nat_le (2 ^ 127) (number_in digits)

abbrev pub literal : Token → ℕ → Value → Word
literal token sort value = record { kind = Literal value; sort = sort; start = token.start; end = token.end }

abbrev pub terminal : ℕ → ℕ → List ℕ → Word
terminal start end text = record { kind = Terminal text; sort = 0; start = start; end = end }

-- A word that is no terminal: `true` and `false` are truths, and any other is an identifier by its number.
abbrev pub other_word : List (List ℕ) → Token → List ℕ → Word
other_word names token bytes =
    if same_text bytes (codes "true") then literal token sort_bool (Truth true) else
    (if same_text bytes (codes "false") then literal token sort_bool (Truth false) else
    literal token sort_id (Id (record { 0 = unwrap_or (number_of names bytes) 0 })))

abbrev pub word_of : List (List ℕ) → List (List ℕ) → Token → List ℕ → Word
word_of terminals names token bytes = if is_among terminals bytes then terminal token.start token.end bytes else other_word names token bytes

abbrev pub is_mark : Kind → Bool
is_mark WordToken = false
is_mark Int = false
is_mark Str = false
is_mark Mark = true

-- how many marks stand at the front, the first at a place and each other where the one before it ends
abbrev pub adjacent : ℕ → List Token → ℕ
adjacent at [] = 0
adjacent at (token ∷ tokens) = if is_mark token.kind && (token.start == at) then suc (adjacent token.end tokens) else 0

-- the terminal of this many bytes, with as many marks: a mark is one byte
abbrev pub terminal_of : List ℕ → ℕ → ℕ → Option (Word × ℕ)
terminal_of text at zero = None
terminal_of text at (suc n) = Some (terminal at (at + suc n) (take (suc n) (drop at text)), suc n)

-- What tokens that begin with one of a kind are read as first, with the number of those: one word, number or string, or as
-- many adjacent marks as make the longest terminal. None at a mark with which no terminal begins.
abbrev pub read_as : Kind → List (List ℕ) → List (List ℕ) → List ℕ → Token → List Token → Option (Word × ℕ)
read_as WordToken terminals names text token tokens = Some (word_of terminals names token (bytes_of text token), 1)
read_as Int terminals names text token tokens = Some (literal token sort_int (Number (pos (min (number_in (bytes_of text token)) greatest))), 1)
read_as Str terminals names text token tokens = Some (literal token sort_string (Text (text_of_string (bytes_of text token))), 1)
read_as Mark terminals names text token tokens = terminal_of text token.start (longest terminals (drop token.start text) (adjacent token.start tokens))

-- the first word of base tokens, with the number of its tokens
abbrev pub first_word : List (List ℕ) → List (List ℕ) → List ℕ → List Token → Option (Word × ℕ)
first_word terminals names text [] = None
first_word terminals names text (token ∷ tokens) = read_as token.kind terminals names text token (token ∷ tokens)

-- These words follow one another in base tokens, and leave the rest of them.
abbrev pub AreWords : List (List ℕ) → List (List ℕ) → List ℕ → List Word → List Token → List Token → Type 0
AreWords terminals names text [] before after = before ≡ after
AreWords terminals names text (word ∷ words) before after =
    (size : ℕ) × (first_word terminals names text before ≡ Some (word, size)) × AreWords terminals names text words (drop size before) after

-- a number of the program that is greater than the greatest
abbrev pub is_wide : List ℕ → Word → Bool
is_wide text word = word.sort == sort_int && are_wide (span text word.start word.end)

-- where the first such number stands, if there is one
abbrev pub first_wide : List ℕ → List Word → Option ℕ
first_wide text words = option_map (λ word. word.start) (find (is_wide text) words)

-- a word stands in the text
abbrev pub IsInside : List ℕ → Word → Type 0
IsInside text word = (word.start ≤ word.end) × (word.end ≤ length text)
