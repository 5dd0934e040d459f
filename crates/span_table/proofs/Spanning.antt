-- The rows of a span, from those of shorter spans.
use Rattle.std.proofs.Common.{ℕ, ◌+◌, ◌-◌, ◌<◌, ◌≤◌, ◌≡◌, inl, inr, List, [], get_or, sym, subst, arith}
use Rattle.std.proofs.Math.Nat.{eq-or-lt_of_le}
use Rattle.grammar_terms.specs.declared.word.Word.{Word}
use Rattle.grammar_terms.specs.Grammar.{Syntax}
use Rattle.span_rows.specs.declared.row.Row.{Row}
use Rattle.span_rows.specs.Rows.{Adds, IsMade, IsJoin, GoesOn}
use Rattle.span_table.specs.Meaning.{Says, AreSound}
use Rattle.span_rows.specs.Tokens.{IsTokenOver}
use Rattle.span_table.specs.Table.{IsMiddle, IsFull, IsSaturated, KeepsSound, IsSoundUpTo, IsSoundColumn, rows_of}
use Rattle.span_rows.proofs.Adding.{adds_none, adds_both, adds_as, grown}
use Rattle.span_table.proofs.Sounding.{says_token, says_gone, says_joined, adds_sound}

-- ---- two parts of a span

-- whose middle is below a bound
abbrev pub MiddleUpTo : Syntax → List Row → List (List (List Row)) → List (List Row) → ℕ → ℕ → ℕ → Row → Type 0
MiddleUpTo g empty columns column from last bound made = (m : IsMiddle g empty columns column from last made) × (m.middle < bound)

pub middles_none : (g : Syntax) (empty : List Row) (columns : List (List (List Row))) (column : List (List Row)) (from last : ℕ) (rows : List Row)
    → Adds (MiddleUpTo g empty columns column from last (from + 1)) rows rows
middles_none g empty columns column from last rows =
    adds_none (MiddleUpTo g empty columns column from last (from + 1)) rows (λ x up. let above = up.0.above in absurd (omega (arith, up.1, up.0.above)))

pub middles_next : (g : Syntax) (empty : List Row) (columns : List (List (List Row))) (column : List (List Row)) (from last middle : ℕ) (one two three : List Row)
    → from < middle → middle ≤ last → Adds (MiddleUpTo g empty columns column from last middle) one two
    → Adds (IsJoin g (rows_of empty columns from middle) (get_or column (last - middle) [])) two three → Adds (MiddleUpTo g empty columns column from last (middle + 1)) one three
middles_next g empty columns column from last middle one two three above below before now =
    adds_both (MiddleUpTo g empty columns column from last middle) (IsJoin g (rows_of empty columns from middle) (get_or column (last - middle) []))
    (MiddleUpTo g empty columns column from last (middle + 1)) one two three
    (λ x up. (up.0, omega (arith, up.1)))
    (λ x join. (record { middle = middle; above = above; below = below; join = join }, omega arith))
    (λ x up.
    let at_most : up.0.middle ≤ middle = omega (arith, up.1) in
    elim (eq-or-lt_of_le at_most) [
      | inl same ↦ inr (subst (λ m. IsJoin g (rows_of empty columns from m) (get_or column (last - m) []) x) same up.0.join)
      | inr less ↦ inl (up.0, less)
    ])
    before now

pub middles_all : (g : Syntax) (empty : List Row) (columns : List (List (List Row))) (column : List (List Row)) (from last bound : ℕ) (before after : List Row) → last + 1 ≤ bound
    → Adds (MiddleUpTo g empty columns column from last bound) before after → Adds (IsMiddle g empty columns column from last) before after
middles_all g empty columns column from last bound before after past added =
    adds_as (MiddleUpTo g empty columns column from last bound) (IsMiddle g empty columns column from last) before after (λ x up. up.0)
    (λ x m. (m, omega (arith, m.below))) added

-- ---- all of it

pub full_of : (g : Syntax) (words : List Word) (empty : List Row) (columns : List (List (List Row))) (column : List (List Row)) (from last : ℕ) (one two three rows : List Row)
    → Adds (IsTokenOver g words from last) [] one → Adds (IsMade (GoesOn g words last) (rows_of empty columns from last)) one two
    → Adds (IsMiddle g empty columns column from last) two three → IsSaturated g empty three rows → IsFull g words empty columns column from last rows
full_of g words empty columns column from last one two three rows tokens passed middles saturated = record {
  far = λ x far. elim far [
    | inl token ↦ grown three rows x saturated.grows (grown two three x middles.grows (grown one two x passed.grows (tokens.covers x token)))
    | inr others ↦ elim others [
      | inl pass ↦ grown three rows x saturated.grows (grown two three x middles.grows (passed.covers x pass))
      | inr middle ↦ grown three rows x saturated.grows (middles.covers x middle)
    ]
  ];
  near = saturated.covers;
}

says_over : (g : Syntax) (words : List Word) (from last : ℕ) (made : Row) → IsTokenOver g words from last made → Says g words from (last + 1) made.key made.code
says_over g words from last made over = subst (λ at. Says g words at (last + 1) made.key made.code) (sym over.0) (says_token g words last made over.1)

pub sound_of : (g : Syntax) (words : List Word) (empty : List Row) (columns : List (List (List Row))) (column : List (List Row)) (from last : ℕ) (one two three rows : List Row)
    → from ≤ last → Adds (IsTokenOver g words from last) [] one → Adds (IsMade (GoesOn g words last) (rows_of empty columns from last)) one two
    → Adds (IsMiddle g empty columns column from last) two three → KeepsSound g empty three rows
    → IsSoundUpTo g words empty columns last → IsSoundColumn g words last column (last - from) → AreSound g words from (last + 1) rows
sound_of g words empty columns column from last one two three rows within tokens passed middles keeps up beside =
    let first = adds_sound g words from (last + 1) (IsTokenOver g words from last) [] one tokens (λ x none. absurd none) (λ x over. says_over g words from last x over) in
    let second =
    adds_sound g words from (last + 1) (IsMade (GoesOn g words last) (rows_of empty columns from last)) one two passed first
    (λ x made. says_gone g words from last made.front x (up.before from last (omega arith) made.front made.has_front) made.makes) in
    let third =
    adds_sound g words from (last + 1) (IsMiddle g empty columns column from last) two three middles second
    (λ x m.
    let back : last - (last - m.middle) ≡ m.middle = omega (arith, m.below) in
    let less : last - m.middle < last - from = omega (arith, m.below, m.above) in
    says_joined g words from m.middle (last + 1) (rows_of empty columns from m.middle) (get_or column (last - m.middle) []) x (up.before from m.middle m.below)
    (subst (λ at. AreSound g words at (last + 1) (get_or column (last - m.middle) [])) back (beside (last - m.middle) less)) m.join) in
    keeps words from (last + 1) (up.alone from) (up.alone (last + 1)) third
