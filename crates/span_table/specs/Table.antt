-- The table of spans.
use Rattle.std.specs.Prelude.{◌≡◌, ◌⊎◌, ℕ, ◌+◌, ◌-◌, ◌<◌, ◌≤◌, ◌==◌, nat_lt, cond, List, [], length, get_or, take}
use Rattle.grammar_terms.specs.declared.word.Word.{Word}
use Rattle.grammar_terms.specs.Cuts.{Has}
use Rattle.grammar_terms.specs.Grammar.{Syntax}
use Rattle.span_rows.specs.declared.row.Row.{Row}
use Rattle.span_rows.specs.Rows.{Kept, IsSeed, GoesOn, Finishes, Grows, IsMade, IsJoin, IsNear}
use Rattle.span_rows.specs.Tokens.{IsToken, IsTokenOver}
use Rattle.span_table.specs.Meaning.{AreSound}

-- Rows of each span of a text, by the places of its first token and behind its last, such that what they make is kept.
pub record IsFullTable (g : Syntax) (words : List Word) (rows : ℕ → ℕ → List Row) : Type 0 where
  pub seeds : (at : ℕ) (made : Row) → IsSeed g made → Kept (rows at at) made
  pub tokens : (at : ℕ) (made : Row) → IsToken g words at made → Kept (rows at (at + 1)) made
  pub passed : (from at : ℕ) (front made : Row) → Has (rows from at) front → GoesOn g words at front made → Kept (rows from (at + 1)) made
  pub finished : (from past : ℕ) (front made : Row) → Has (rows from past) front → Finishes g front made → Kept (rows from past) made
  pub extended : (from at past : ℕ) (front child made : Row) → Has (rows from at) front → Has (rows at past) child → Grows g front child made → Kept (rows from past) made

-- what rows of a span make in it is kept in it
pub record IsSaturated (g : Syntax) (empty before after : List Row) : Type 0 where
  pub grows : (made : Row) → Has before made → Has after made
  pub covers : (made : Row) → IsNear g empty after made → Kept after made

-- where rows say what is so, so do others
abbrev pub KeepsSound : Syntax → List Row → List Row → List Row → Type 0
KeepsSound g empty before after =
    (words : List Word) (from past : ℕ) → AreSound g words from from empty → AreSound g words past past empty → AreSound g words from past before → AreSound g words from past after

abbrev pub KeepsSoundAlone : Syntax → List Row → List Row → Type 0
KeepsSoundAlone g before after = (words : List Word) (at : ℕ) → AreSound g words at at before → AreSound g words at at after

-- The rows of a span, by those of the empty span and a column of spans for each place of a last token, the shortest span
-- first.
abbrev pub rows_of : List Row → List (List (List Row)) → ℕ → ℕ → List Row
rows_of empty columns from past = cond (from == past) empty (cond (nat_lt from past) (get_or (get_or columns (past - 1) []) (past - 1 - from) []) [])

-- a span in two parts, whose rows make this one
pub record IsMiddle (g : Syntax) (empty : List Row) (columns : List (List (List Row))) (column : List (List Row)) (from last : ℕ) (made : Row) : Type 0 where
  pub middle : ℕ
  pub above : from < middle
  pub below : middle ≤ last
  pub join : IsJoin g (rows_of empty columns from middle) (get_or column (last - middle) []) made

-- What shorter spans, and the last token, make in a span. The column has those that end with it.
abbrev pub IsFar : Syntax → List Word → List Row → List (List (List Row)) → List (List Row) → ℕ → ℕ → Row → Type 0
IsFar g words empty columns column from last made =
    IsTokenOver g words from last made
    ⊎ (IsMade (GoesOn g words last) (rows_of empty columns from last) made ⊎ IsMiddle g empty columns column from last made)

-- the rows of a span keep what shorter spans make in it, and what they make themselves
pub record IsFull (g : Syntax) (words : List Word) (empty : List Row) (columns : List (List (List Row))) (column : List (List Row)) (from last : ℕ) (rows : List Row) : Type 0 where
  pub far : (made : Row) → IsFar g words empty columns column from last made → Kept rows made
  pub near : (made : Row) → IsNear g empty rows made → Kept rows made

-- the rows of the empty span, and of those that end up to a place, say what is so
pub record IsSoundUpTo (g : Syntax) (words : List Word) (empty : List Row) (columns : List (List (List Row))) (last : ℕ) : Type 0 where
  pub alone : (at : ℕ) → AreSound g words at at empty
  pub before : (from past : ℕ) → past ≤ last → AreSound g words from past (rows_of empty columns from past)

-- so do the first spans of a column
abbrev pub IsSoundColumn : Syntax → List Word → ℕ → List (List Row) → ℕ → Type 0
IsSoundColumn g words last column count = (width : ℕ) → width < count → AreSound g words (last - width) (last + 1) (get_or column width [])

-- the spans of a column are full
pub record IsFullColumn (g : Syntax) (words : List Word) (empty : List Row) (columns : List (List (List Row))) (last : ℕ) (column : List (List Row)) (count : ℕ) : Type 0 where
  pub length_is : length column ≡ count
  pub each : (width : ℕ) → width < count → IsFull g words empty columns (take width column) (last - width) last (get_or column width [])

-- the columns are full
pub record AreFullColumns (g : Syntax) (words : List Word) (empty : List Row) (columns : List (List (List Row))) (count : ℕ) : Type 0 where
  pub length_is : length columns ≡ count
  pub each : (last : ℕ) → last < count → IsFullColumn g words empty (take last columns) last (get_or columns last []) (last + 1)

-- the rows of the empty span
pub record IsEmptySpan (g : Syntax) (rows : List Row) : Type 0 where
  pub seeds : (made : Row) → IsSeed g made → Kept rows made
  pub near : (made : Row) → IsNear g rows rows made → Kept rows made
  pub sound : (words : List Word) (at : ℕ) → AreSound g words at at rows
