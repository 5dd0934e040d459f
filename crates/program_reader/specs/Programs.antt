-- What a text is as a program at a sort.
use Rattle.std.specs.Prelude.{◌≡◌, ◌⊎◌, ℕ, ◌-◌, ◌<◌, ◌≤◌, ◌^◌, min, List, length, Some, None}
use Rattle.k_terms.specs.declared.value.Value.{Value}
use Rattle.k_terms.specs.Value.{depth_of}
use Rattle.k_terms.specs.Operators.{depth_limit}
use Rattle.grammar_terms.specs.declared.shape.Shape.{Shape}
use Rattle.grammar_terms.specs.declared.word.Word.{Word}
use Rattle.grammar_terms.specs.Grammar.{Syntax}
use Rattle.grammar_terms.specs.Values.{value_of}
use Rattle.program_tokens.specs.declared.split.Split.{Split}
use Rattle.program_tokens.specs.Splits.{IsSplit}
use Rattle.program_reader.specs.declared.refusal.ReadRefusal.{ReadRefusal}
use Rattle.program_reader.specs.declared.refusal.ReadRefusal.TheVariants.{TooBig, TooLong, BadToken, WideNumber, Ambiguous, TooDeep}
use Rattle.program_reader.specs.Readings.{IsOnlyReading, IsUnread}

-- the most bytes and the most tokens of a program
abbrev pub most_bytes : ℕ
most_bytes = 65536

abbrev pub most_tokens : ℕ
most_tokens = 256

-- the words are within their limit, without a bad place and a wide number
pub record IsGood (split : Split) : Type 0 where
  pub few : length split.words ≤ most_tokens
  pub no_bad : split.bad ≡ None
  pub no_wide : split.wide ≡ None

-- Why words can't be read: there are too many, else there is a bad place, else a wide number.
abbrev pub IsBadSplit : Split → ReadRefusal → Type 0
IsBadSplit split (TooLong tokens) = (tokens ≡ length split.words) × (most_tokens < length split.words)
IsBadSplit split (BadToken at) = (length split.words ≤ most_tokens) × (split.bad ≡ Some at)
IsBadSplit split (WideNumber at) = (length split.words ≤ most_tokens) × (split.bad ≡ None) × (split.wide ≡ Some at)
IsBadSplit split _ = ⊥

-- the value of the one reading
pub record IsOnlyValue (g : Syntax) (sort : ℕ) (words : List Word) (value : Value) : Type 0 where
  pub shape : Shape
  pub only : IsOnlyReading g sort words shape
  pub is : value ≡ value_of g.prods words sort shape

-- the value of the one reading, not too deep
pub record IsValue (g : Syntax) (sort : ℕ) (words : List Word) (value : Value) : Type 0 where
  pub only : IsOnlyValue g sort words value
  pub shallow : depth_of value ≤ depth_limit

-- why words have no such value: they have no reading, or two, or the value is too deep
abbrev pub HasNoValue : Syntax → ℕ → List Word → ReadRefusal → Type 0
HasNoValue g sort words (TooDeep depth) =
    (value : Value) × IsOnlyValue g sort words value × (depth_limit < depth_of value) × (depth ≡ min (depth_of value) (2 ^ 32 - 1))
HasNoValue g sort words refusal = IsUnread g sort words refusal

-- The text is a program with this value: it is within its limit, and its words, which are good, have the value. The names after
-- that are those before with the words of the text.
pub record IsProgram (g : Syntax) (before : List (List ℕ)) (sort : ℕ) (text : List ℕ) (after : List (List ℕ)) (value : Value) : Type 0 where
  pub fits : length text ≤ most_bytes
  pub split : Split
  pub is_split : IsSplit g before text after split
  pub good : IsGood split
  pub is_value : IsValue g sort split.words value

-- what is wrong with the words of a text that is within its limit, and the names after that
pub record IsFaulty (g : Syntax) (before : List (List ℕ)) (sort : ℕ) (text : List ℕ) (after : List (List ℕ)) (refusal : ReadRefusal) : Type 0 where
  pub fits : length text ≤ most_bytes
  pub split : Split
  pub is_split : IsSplit g before text after split
  pub is : IsBadSplit split refusal ⊎ (IsGood split × HasNoValue g sort split.words refusal)

-- Why a text is no program: it is too long, or its words are faulty.
abbrev pub IsRefused : Syntax → List (List ℕ) → ℕ → List ℕ → List (List ℕ) → ReadRefusal → Type 0
IsRefused g before sort text after (TooBig bytes) = (bytes ≡ most_bytes) × (most_bytes < length text) × (after ≡ before)
IsRefused g before sort text after refusal = IsFaulty g before sort text after refusal

-- the same refusal, or two of several readings each
abbrev pub IsLike : ReadRefusal → ReadRefusal → Type 0
IsLike (Ambiguous first second) (Ambiguous one other) = Unit {0}
IsLike one other = one ≡ other
