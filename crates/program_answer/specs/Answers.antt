-- What is answered for the text of a program.
use Rattle.std.specs.Prelude.{◌≡◌, ℕ, List, [], ◌∷◌, ◌++◌, map, codes}
use Rattle.std.specs.Fmt.{decimal}
use Rattle.k_terms.specs.declared.value.Value.{Value}
use Rattle.grammar_terms.specs.Grammar.{Syntax, label_of}
use Rattle.printed_form.specs.Words.{Words}
use Rattle.printed_form.specs.Printed.{value_text}
use Rattle.program_reader.specs.declared.refusal.ReadRefusal.{ReadRefusal}
use Rattle.program_reader.specs.declared.refusal.ReadRefusal.TheVariants.{TooBig, TooLong, BadToken, WideNumber, NoReading, Ambiguous, TooDeep, Memory}
use Rattle.program_reader.specs.Programs.{IsProgram, IsRefused}
use Rattle.program_answer.specs.declared.answer.Answer.{Answer}
use Rattle.program_answer.specs.declared.answer.Answer.TheVariants.{Shown, Refused}

-- a line feed
abbrev pub line_end : List ℕ
line_end = 10 ∷ []

-- a line of a text and a number in decimal
abbrev pub numbered : List ℕ → ℕ → List ℕ
numbered text number = text ++ decimal number ++ line_end

-- the words that values are printed with: the labels of a grammar, and the names of identifiers
abbrev pub words_of : Syntax → List (List ℕ) → Words
words_of g names = record { labels = map (label_of g.names) g.prods; symbols = names }

-- the line of a refused program; want of memory has none
abbrev pub refusal_line : Words → ReadRefusal → List ℕ
refusal_line words (TooBig bytes) = numbered (codes "program 27 TooBig bytes=") bytes
refusal_line words (TooLong tokens) = numbered (codes "program 15 TooLong tokens=") tokens
refusal_line words (BadToken at) = numbered (codes "program 12 BadToken at=") at
refusal_line words (WideNumber at) = numbered (codes "program 16 WideNumber at=") at
refusal_line words (NoReading at) = numbered (codes "program 13 NoReading at=") at
refusal_line words (Ambiguous first second) =
    codes "program 14 Ambiguous first=" ++ value_text words first ++ codes " second=" ++ value_text words second ++ line_end
refusal_line words (TooDeep depth) = numbered (codes "program 28 TooDeep depth=") depth
refusal_line words Memory = []

-- Over a grammar, names and a sort: the text is a program, and its value is printed; or it is refused, with its line.
abbrev pub IsTold : Syntax → List (List ℕ) → ℕ → List ℕ → Answer → List ℕ → Type 0
IsTold g names sort program Shown text =
    (after : List (List ℕ)) × (value : Value) × IsProgram g names sort program after value
    × (text ≡ value_text (words_of g after) value ++ line_end)
IsTold g names sort program (Refused refusal) text =
    (after : List (List ℕ)) × IsRefused g names sort program after refusal
    × (text ≡ refusal_line (words_of g after) refusal)
