-- The laws of splits.
use Rattle.std.specs.Prelude.{◌≡◌, ◌≤◌, ℕ, List, Some}
use Rattle.std.specs.List.{AllByRecursion}
use Rattle.k_terms.specs.Names.{number_of}
use Rattle.k_terms.specs.declared.value.Value.{Id}
use Rattle.k_lexer.specs.declared.fault.LexFault.{LexFault}
use Rattle.k_lexer.specs.Lexing.{IsFault, place}
use Rattle.production_reader.specs.Lexemes.{span}
use Rattle.grammar_terms.specs.declared.word.Word.{Word}
use Rattle.grammar_terms.specs.declared.word.WordKind.{WordKind}
use Rattle.grammar_terms.specs.declared.word.WordKind.TheVariants.{Literal}
use Rattle.grammar_terms.specs.Grammar.{Syntax}
use Rattle.program_tokens.specs.declared.split.Split.{Split}
use Rattle.program_tokens.specs.Splits.{IsSplit}

abbrev pub HasOneSplit : Type 0
HasOneSplit =
    (g : Syntax) (before : List (List ℕ)) (text : List ℕ) (after others : List (List ℕ)) (one other : Split) → IsSplit g before text after one → IsSplit g before text others other
    → (after ≡ others) × (one ≡ other)

-- a text with a fault has a bad place, which is not past the fault
abbrev pub HasLeastBad : Type 0
HasLeastBad =
    (g : Syntax) (before : List (List ℕ)) (text : List ℕ) (after : List (List ℕ)) (split : Split) (fault : LexFault) → IsSplit g before text after split → IsFault text fault
    → (at : ℕ) × (split.bad ≡ Some at) × (at ≤ place fault)

-- an identifier has the number of the bytes among the names
abbrev pub IsNamed : List (List ℕ) → List ℕ → WordKind → Type 0
IsNamed names bytes (Literal (Id symbol)) = number_of names bytes ≡ Some symbol.0
IsNamed names bytes _ = Unit {0}

-- each identifier has the number of its word
abbrev pub HasSymbols : Type 0
HasSymbols =
    (g : Syntax) (before : List (List ℕ)) (text : List ℕ) (after : List (List ℕ)) (split : Split) → IsSplit g before text after split
    → AllByRecursion (λ word. IsNamed after (span text word.start word.end) word.kind) split.words
