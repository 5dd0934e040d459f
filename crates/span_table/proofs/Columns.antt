-- The table column by column.
use Rattle.std.proofs.Common.{ℕ, ◌+◌, ◌-◌, ◌<◌, ◌≤◌, ◌≡◌, ◌⊎◌, inl, inr, true, false, true≢false, cond, List, [], ◌∷◌, ◌++◌, length, get_or, take, Some, None, slice_get, refl, sym, ap, ◌∙◌, subst, arith, length-append}
use Rattle.std.specs.Prelude.{◌==◌, nat_lt, option_map}
use Rattle.std.proofs.Math.Nat.{eq-or-lt_of_le}
use Rattle.std.proofs.Math.ListN.{get_or-append, get_or-eq_default}
use Rattle.std.proofs.Math.Seq.{get_or-append_seam, take-append_seam}
use Rattle.std.proofs.lemmas.List.{take-append-le, get_or-take}
use Rattle.std.proofs.lemmas.Bool.{cases_eq, cases_lt}
use Rattle.std.proofs.lemmas.Bool.Decides.{nat_tests}
use Rattle.std.proofs.lemmas.Option.{slice_get_within, slice_get_cases}
use Rattle.grammar_terms.specs.declared.word.Word.{Word}
use Rattle.grammar_terms.specs.declared.word.WordKind.{WordKind}
use Rattle.grammar_terms.specs.Cuts.{Has}
use Rattle.grammar_terms.specs.Places.{token_place, token_place_at}
use Rattle.grammar_terms.specs.Reading.{IsWordAt, is_wild, is_wild_at}
use Rattle.grammar_terms.specs.Grammar.{Syntax}
use Rattle.span_rows.specs.declared.row.Row.{Row}
use Rattle.span_rows.specs.Rows.{Kept, GoesOn, Finishes, Grows}
use Rattle.span_table.specs.Meaning.{AreSound}
use Rattle.span_rows.specs.Tokens.{IsToken}
use Rattle.span_table.specs.Table.{IsFull, IsSoundUpTo, IsSoundColumn, IsFullColumn, AreFullColumns, IsEmptySpan, IsFullTable, rows_of}

-- what is so of each item of a list and those before it, with one item more
each_pushed : {X : Type 0} (P : ℕ → List X → X → Type 0) (xs : List X) (x d : X) (count : ℕ) → length xs ≡ count
    → ((k : ℕ) → k < count → P k (take k xs) (get_or xs k d)) → P count xs x → (k : ℕ) → k < count + 1 → P k (take k (xs ++ x ∷ [])) (get_or (xs ++ x ∷ []) k d)
each_pushed P xs x d count is each now k less =
    let at_most : k ≤ count = omega (arith, less) in
    elim (eq-or-lt_of_le at_most) [
      | inl same ↦
          let end : k ≡ length xs = same ∙ sym is in
          let front : take k (xs ++ x ∷ []) ≡ xs = ap (λ n. take n (xs ++ x ∷ [])) end ∙ take-append_seam xs (x ∷ []) in
          let item : get_or (xs ++ x ∷ []) k d ≡ x = ap (λ n. get_or (xs ++ x ∷ []) n d) end ∙ get_or-append_seam xs x [] d in
          subst (λ n. P n (take k (xs ++ x ∷ [])) (get_or (xs ++ x ∷ []) k d)) (sym same)
          (subst (λ ys. P count ys (get_or (xs ++ x ∷ []) k d)) (sym front) (subst (P count xs) (sym item) now))
      | inr before ↦
          let within : k < length xs = omega (arith, before, is) in
          let at_most_length : k ≤ length xs = omega (arith, within) in
          let front : take k (xs ++ x ∷ []) ≡ take k xs = take-append-le k xs (x ∷ []) at_most_length in
          let item : get_or (xs ++ x ∷ []) k d ≡ get_or xs k d = get_or-append xs (x ∷ []) d k within in
          subst (λ ys. P k ys (get_or (xs ++ x ∷ []) k d)) (sym front) (subst (P k (take k xs)) (sym item) (each k before))
    ]

length_pushed : {X : Type 0} (xs : List X) (x : X) (count : ℕ) → length xs ≡ count → length (xs ++ x ∷ []) ≡ count + 1
length_pushed xs x count is = omega (arith, length-append xs (x ∷ []), is)

-- ---- a column

pub column_none : (g : Syntax) (words : List Word) (empty : List Row) (columns : List (List (List Row))) (last : ℕ) → IsFullColumn g words empty columns last [] 0
column_none g words empty columns last = record { length_is = refl; each = λ k less. absurd (omega (arith, less)) }

pub column_next : (g : Syntax) (words : List Word) (empty : List Row) (columns : List (List (List Row))) (last width : ℕ) (column : List (List Row)) (rows : List Row)
    → IsFullColumn g words empty columns last column width → IsFull g words empty columns column (last - width) last rows
    → IsFullColumn g words empty columns last (column ++ rows ∷ []) (width + 1)
column_next g words empty columns last width column rows before now = record {
  length_is = length_pushed column rows width before.length_is;
  each = each_pushed (λ k front r. IsFull g words empty columns front (last - k) last r) column rows [] width before.length_is before.each now;
}

pub sound_next : (g : Syntax) (words : List Word) (last width : ℕ) (column : List (List Row)) (rows : List Row) → length column ≡ width
    → IsSoundColumn g words last column width → AreSound g words (last - width) (last + 1) rows → IsSoundColumn g words last (column ++ rows ∷ []) (width + 1)
sound_next g words last width column rows is before now =
    each_pushed (λ k front r. AreSound g words (last - k) (last + 1) r) column rows [] width is before now

-- ---- the columns

-- the three cases of a span
rows_of_same : (empty : List Row) (columns : List (List (List Row))) (from past : ℕ) → from ≡ past → rows_of empty columns from past ≡ empty
rows_of_same empty columns from past same =
    let test : (from == past) ≡ true = grind (arith, nat_tests) in
    ap (λ b. cond b empty (cond (nat_lt from past) (get_or (get_or columns (past - 1) []) (past - 1 - from) []) [])) test

rows_of_less : (empty : List Row) (columns : List (List (List Row))) (from past : ℕ) → from < past → rows_of empty columns from past ≡ get_or (get_or columns (past - 1) []) (past - 1 - from) []
rows_of_less empty columns from past less =
    let test : (from == past) ≡ false = grind (arith, nat_tests) in
    let also : nat_lt from past ≡ true = grind (arith, nat_tests) in
    ap (λ b. cond b empty (cond (nat_lt from past) (get_or (get_or columns (past - 1) []) (past - 1 - from) []) [])) test
    ∙ ap (λ b. cond b (get_or (get_or columns (past - 1) []) (past - 1 - from) []) []) also

rows_of_more : (empty : List Row) (columns : List (List (List Row))) (from past : ℕ) → past < from → rows_of empty columns from past ≡ []
rows_of_more empty columns from past more =
    let test : (from == past) ≡ false = grind (arith, nat_tests) in
    let also : nat_lt from past ≡ false = grind (arith, nat_tests) in
    ap (λ b. cond b empty (cond (nat_lt from past) (get_or (get_or columns (past - 1) []) (past - 1 - from) []) [])) test
    ∙ ap (λ b. cond b (get_or (get_or columns (past - 1) []) (past - 1 - from) []) []) also

rows_of_take : (empty : List Row) (columns : List (List (List Row))) (k from past : ℕ) → past ≤ k → rows_of empty (take k columns) from past ≡ rows_of empty columns from past
rows_of_take empty columns k from past within = elim (cases_lt from past) [
  | inl less ↦
      let before : past - 1 < k = omega arith in
      rows_of_less empty (take k columns) from past less ∙ ap (λ column. get_or column (past - 1 - from) []) (get_or-take k columns (past - 1) [] before) ∙ sym (rows_of_less empty columns from past less)
  | inr other ↦ elim (cases_eq from past) [
    | inl same ↦ rows_of_same empty (take k columns) from past same ∙ sym (rows_of_same empty columns from past same)
    | inr apart ↦
        let more : past < from = omega arith in
        rows_of_more empty (take k columns) from past more ∙ sym (rows_of_more empty columns from past more)
  ]
]

rows_of_pushed : (empty : List Row) (columns : List (List (List Row))) (column : List (List Row)) (from past : ℕ) → past ≤ length columns
    → rows_of empty (columns ++ column ∷ []) from past ≡ rows_of empty columns from past
rows_of_pushed empty columns column from past within =
    sym (rows_of_take empty (columns ++ column ∷ []) (length columns) from past within) ∙ ap (λ cs. rows_of empty cs from past) (take-append_seam columns (column ∷ []))

rows_of_last : (empty : List Row) (columns : List (List (List Row))) (column : List (List Row)) (last from : ℕ) → length columns ≡ last → from < last + 1
    → rows_of empty (columns ++ column ∷ []) from (last + 1) ≡ get_or column (last - from) []
rows_of_last empty columns column last from is less =
    let back : last + 1 - 1 ≡ length columns = omega (arith, is) in
    let width : last + 1 - 1 - from ≡ last - from = omega arith in
    rows_of_less empty (columns ++ column ∷ []) from (last + 1) less
    ∙ ap (λ k. get_or (get_or (columns ++ column ∷ []) k []) (last + 1 - 1 - from) []) back
    ∙ ap (λ c. get_or c (last + 1 - 1 - from) []) (get_or-append_seam columns column [] [])
    ∙ ap (λ w. get_or column w []) width

sound_none : (g : Syntax) (words : List Word) (from past : ℕ) → AreSound g words from past []
sound_none g words from past made has = absurd has

sound_last : (g : Syntax) (words : List Word) (empty : List Row) (columns : List (List (List Row))) (column : List (List Row)) (last from : ℕ) → length columns ≡ last
    → ((at : ℕ) → AreSound g words at at empty) → IsSoundColumn g words last column (last + 1) → AreSound g words from (last + 1) (rows_of empty (columns ++ column ∷ []) from (last + 1))
sound_last g words empty columns column last from is alone sound = elim (cases_lt from (last + 1)) [
  | inl less ↦
      let back : last - (last - from) ≡ from = omega arith in
      let within : last - from < last + 1 = omega arith in
      subst (AreSound g words from (last + 1)) (sym (rows_of_last empty columns column last from is less))
      (subst (λ at. AreSound g words at (last + 1) (get_or column (last - from) [])) back (sound (last - from) within))
  | inr other ↦ elim (cases_eq from (last + 1)) [
    | inl same ↦
        subst (AreSound g words from (last + 1)) (sym (rows_of_same empty (columns ++ column ∷ []) from (last + 1) same))
        (subst (λ at. AreSound g words at (last + 1) empty) (sym same) (alone (last + 1)))
    | inr apart ↦
        let more : last + 1 < from = omega arith in
        subst (AreSound g words from (last + 1)) (sym (rows_of_more empty (columns ++ column ∷ []) from (last + 1) more)) (sound_none g words from (last + 1))
  ]
]

pub sound_more : (g : Syntax) (words : List Word) (empty : List Row) (columns : List (List (List Row))) (column : List (List Row)) (last : ℕ) → length columns ≡ last
    → IsSoundUpTo g words empty columns last → IsSoundColumn g words last column (last + 1) → IsSoundUpTo g words empty (columns ++ column ∷ []) (last + 1)
sound_more g words empty columns column last is up sound = record {
  alone = up.alone;
  before = λ from past within. elim (cases_lt last past) [
    | inl after ↦
        let end : last + 1 ≡ past = omega arith in
        subst (λ p. AreSound g words from p (rows_of empty (columns ++ column ∷ []) from p)) end (sound_last g words empty columns column last from is up.alone sound)
    | inr old ↦
        let at_most : past ≤ length columns = omega (arith, is) in
        subst (AreSound g words from past) (sym (rows_of_pushed empty columns column from past at_most)) (up.before from past old)
  ];
}

sound_at_first : (g : Syntax) (words : List Word) (empty : List Row) (from past : ℕ) → past ≤ 0 → ((at : ℕ) → AreSound g words at at empty) → AreSound g words from past (rows_of empty [] from past)
sound_at_first g words empty from past within alone = elim (cases_eq from past) [
  | inl same ↦ subst (AreSound g words from past) (sym (rows_of_same empty [] from past same)) (subst (λ at. AreSound g words at past empty) (sym same) (alone past))
  | inr apart ↦
      let more : past < from = omega arith in
      subst (AreSound g words from past) (sym (rows_of_more empty [] from past more)) (sound_none g words from past)
]

pub sound_first : (g : Syntax) (words : List Word) (empty : List Row) → IsEmptySpan g empty → IsSoundUpTo g words empty [] 0
sound_first g words empty span = record { alone = span.sound words; before = λ from past within. sound_at_first g words empty from past within (span.sound words) }

pub columns_none : (g : Syntax) (words : List Word) (empty : List Row) → AreFullColumns g words empty [] 0
columns_none g words empty = record { length_is = refl; each = λ k less. absurd (omega (arith, less)) }

pub columns_next : (g : Syntax) (words : List Word) (empty : List Row) (last : ℕ) (columns : List (List (List Row))) (column : List (List Row))
    → AreFullColumns g words empty columns last → IsFullColumn g words empty columns last column (last + 1) → AreFullColumns g words empty (columns ++ column ∷ []) (last + 1)
columns_next g words empty last columns column before now = record {
  length_is = length_pushed columns column last before.length_is;
  each = each_pushed (λ k front c. IsFullColumn g words empty front k c (k + 1)) columns column [] last before.length_is before.each now;
}

-- ---- the table

nothing_past : (columns : List (List (List Row))) (k width : ℕ) → length columns ≤ k → get_or (get_or columns k []) width [] ≡ []
nothing_past columns k width past =
    ap (λ column. get_or column width []) (get_or-eq_default columns [] past) ∙ get_or-eq_default [] [] {n = width} (omega arith)

has_cases : (empty : List Row) (columns : List (List (List Row))) (from past : ℕ) (x : Row) → Has (rows_of empty columns from past) x
    → ((from ≡ past) × Has empty x) ⊎ ((from < past) × (past ≤ length columns))
has_cases empty columns from past x has = elim (cases_lt from past) [
  | inl less ↦ elim (cases_lt (past - 1) (length columns)) [
    | inl within ↦ inr (less, omega (arith, within, less))
    | inr after ↦ absurd (subst (λ rows. Has rows x) (rows_of_less empty columns from past less ∙ nothing_past columns (past - 1) (past - 1 - from) after) has)
  ]
  | inr other ↦ elim (cases_eq from past) [
    | inl same ↦ inl (same, subst (λ rows. Has rows x) (rows_of_same empty columns from past same) has)
    | inr apart ↦
        let more : past < from = omega arith in
        absurd (subst (λ rows. Has rows x) (rows_of_more empty columns from past more) has)
  ]
]

none_kind : (kind : WordKind) → None ≡ Some kind → ⊥
none_kind kind same = cc

option_within : (words : List Word) (at : ℕ) (kind : WordKind) → option_map (λ (word : Word). word.kind) (slice_get words at) ≡ Some kind → at < length words
option_within words at kind is = elim (slice_get_cases words at).1 [
  | inl here ↦ here.1
  | inr past ↦ absurd (none_kind kind (sym (ap (option_map (λ (word : Word). word.kind)) past.1) ∙ is))
]

wild_within : (words : List Word) (at : ℕ) → is_wild_at words at ≡ true → at < length words
wild_within words at wild = elim (slice_get_cases words at).1 [
  | inl here ↦ here.1
  | inr past ↦ absurd (true≢false (sym wild ∙ ap (λ it. elim it [ None ↦ false | Some word ↦ is_wild word.kind ]) past.1))
]

no_number : (number : ℕ) → None ≡ Some number → ⊥
no_number number same = cc

place_within : (words : List Word) (at number : ℕ) → token_place_at words at ≡ Some number → at < length words
place_within words at number asked = elim (slice_get_cases words at).1 [
  | inl here ↦ here.1
  | inr past ↦ absurd (no_number number (sym (ap (λ it. elim it [ None ↦ None | Some word ↦ token_place word ]) past.1) ∙ asked))
]

word_within : (words : List Word) (at : ℕ) (kind : WordKind) (sort : ℕ) → IsWordAt words at kind sort → at < length words
word_within words at kind sort word = slice_get_within words at word.0 word.1

-- where a row goes on with a token, there is one
gone_within : (g : Syntax) (words : List Word) (at : ℕ) (front made : Row) → GoesOn g words at front made → at < length words
gone_within g words at front made (inl e) = option_within words at _ e.stands
gone_within g words at front made (inr (inl e)) = word_within words at _ _ e.word
gone_within g words at front made (inr (inr (inl e))) = option_within words at _ e.stands
gone_within g words at front made (inr (inr (inr (inl e)))) = option_within words at _ e.stands
gone_within g words at front made (inr (inr (inr (inr e)))) = word_within words at _ _ e.word

token_within : (g : Syntax) (words : List Word) (at : ℕ) (made : Row) → IsToken g words at made → at < length words
token_within g words at made (inl e) = slice_get_within words at e.leaf.0 e.leaf.1
token_within g words at made (inr (inl e)) = wild_within words at e.wild
token_within g words at made (inr (inr (inl e))) = word_within words at _ _ e.makes.word
token_within g words at made (inr (inr (inr (inl e)))) = word_within words at _ _ e.word
token_within g words at made (inr (inr (inr (inr (inl e))))) = option_within words at _ e.stands
token_within g words at made (inr (inr (inr (inr (inr e))))) = place_within words at e.number e.asked

module _ (g : Syntax) (words : List Word) (empty : List Row) (columns : List (List (List Row))) (span : IsEmptySpan g empty) (full : AreFullColumns g words empty columns (length words)) where
  span_full : (from past : ℕ) → from < past → past ≤ length columns
      → IsFull g words empty (take (past - 1) columns) (take (past - 1 - from) (get_or columns (past - 1) [])) from (past - 1) (rows_of empty columns from past)
  span_full from past less within =
      let last : past - 1 < length words = omega (arith, full.length_is) in
      let width : past - 1 - from < past - 1 + 1 = omega arith in
      let back : past - 1 - (past - 1 - from) ≡ from = omega arith in
      subst (IsFull g words empty (take (past - 1) columns) (take (past - 1 - from) (get_or columns (past - 1) [])) from (past - 1)) (sym (rows_of_less empty columns from past less))
      (subst (λ i. IsFull g words empty (take (past - 1) columns) (take (past - 1 - from) (get_or columns (past - 1) [])) i (past - 1) (get_or (get_or columns (past - 1) []) (past - 1 - from) [])) back
      ((full.each (past - 1) last).each (past - 1 - from) width))

  -- the same at the place of the last token
  last_full : (from last : ℕ) → from ≤ last → last < length words
      → IsFull g words empty (take last columns) (take (last - from) (get_or columns last [])) from last (rows_of empty columns from (last + 1))
  last_full from last within less =
      let before : from < last + 1 = omega arith in
      let at_most : last + 1 ≤ length columns = omega (arith, full.length_is) in
      let back : last + 1 - 1 ≡ last = omega arith in
      subst (λ k. IsFull g words empty (take k columns) (take (k - from) (get_or columns k [])) from k (rows_of empty columns from (last + 1))) back (span_full from (last + 1) before at_most)

  kept_same : (from past : ℕ) (made : Row) → from ≡ past → Kept empty made → Kept (rows_of empty columns from past) made
  kept_same from past made same kept = subst (λ rows. Kept rows made) (sym (rows_of_same empty columns from past same)) kept

  table_passed : (from at : ℕ) (front made : Row) → Has (rows_of empty columns from at) front → GoesOn g words at front made → Kept (rows_of empty columns from (at + 1)) made
  table_passed from at front made has pass =
      let less = gone_within g words at front made pass in
      let within : from ≤ at = elim (has_cases empty columns from at front has) [ inl same ↦ omega (arith, same.0) | inr before ↦ omega (arith, before.0) ] in
      (last_full from at within less).far made
      (inr (inl (record { front = front; has_front = subst (λ rows. Has rows front) (sym (rows_of_take empty columns at from at (omega arith))) has; makes = pass })))

  table_finished : (from past : ℕ) (front made : Row) → Has (rows_of empty columns from past) front → Finishes g front made → Kept (rows_of empty columns from past) made
  table_finished from past front made has done = elim (has_cases empty columns from past front has) [
    | inl same ↦ kept_same from past made same.0 (span.near made (inl (record { front = front; has_front = same.1; makes = done })))
    | inr before ↦ (span_full from past before.0 before.1).near made (inl (record { front = front; has_front = has; makes = done }))
  ]

  table_extended : (from at past : ℕ) (front child made : Row) → Has (rows_of empty columns from at) front → Has (rows_of empty columns at past) child → Grows g front child made
      → Kept (rows_of empty columns from past) made
  table_extended from at past front child made has also e = elim (has_cases empty columns from at front has) [
    | inl same ↦ elim (has_cases empty columns at past child also) [
      | inl ends ↦ kept_same from past made (same.0 ∙ ends.0) (span.near made (inr (inl (record { front = front; child = child; has_front = same.1; has_child = ends.1; grows = e }))))
      | inr before ↦
          let less : from < past = omega (arith, same.0, before.0) in
          (span_full from past less before.1).near made
          (inr (inl (record { front = front; child = child; has_front = same.1; has_child = subst (λ i. Has (rows_of empty columns i past) child) (sym same.0) also; grows = e })))
    ]
    | inr first ↦ elim (has_cases empty columns at past child also) [
      | inl ends ↦
          let less : from < past = omega (arith, first.0, ends.0) in
          let within : past ≤ length columns = omega (arith, first.1, ends.0) in
          (span_full from past less within).near made
          (inr (inr (record { front = front; child = child; has_front = subst (λ m. Has (rows_of empty columns from m) front) ends.0 has; has_child = ends.1; grows = e })))
      | inr before ↦
          let less : from < past = omega (arith, first.0, before.0) in
          let middle : at ≤ past - 1 = omega (arith, before.0) in
          let width : past - 1 - at < past - 1 - from = omega (arith, first.0, before.0) in
          (span_full from past less before.1).far made
          (inr (inr (record {
            middle = at;
            above = first.0;
            below = middle;
            join = record {
              front = front;
              child = child;
              has_front = subst (λ rows. Has rows front) (sym (rows_of_take empty columns (past - 1) from at middle)) has;
              has_child = subst (λ rows. Has rows child) (rows_of_less empty columns at past before.0 ∙ sym (get_or-take (past - 1 - from) (get_or columns (past - 1) []) (past - 1 - at) [] width)) also;
              grows = e;
            };
          })))
    ]
  ]

  pub table_full : IsFullTable g words (rows_of empty columns)
  table_full = record {
    seeds = λ at made seed. kept_same at at made refl (span.seeds made seed);
    tokens = λ at made token. (last_full at at (omega arith) (token_within g words at made token)).far made (inl (refl, token));
    passed = table_passed;
    finished = table_finished;
    extended = table_extended;
  }
