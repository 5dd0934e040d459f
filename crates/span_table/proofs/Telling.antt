-- What rows tell of readings.
use Rattle.std.proofs.Common.{ℕ, ◌+◌, ◌<◌, ◌≤◌, ◌≡◌, inl, inr, List, length, get_or, take, None, Result, Ok, Err, IfOk, sym, ap, ◌∙◌, subst}
use Rattle.std.proofs.lemmas.List.{take_all}
use Rattle.grammar_terms.specs.declared.shape.Shape.{Shape}
use Rattle.grammar_terms.specs.declared.shape.Readings.{Readings}
use Rattle.grammar_terms.specs.declared.shape.Readings.TheVariants.{Zero, One, Two}
use Rattle.grammar_terms.specs.declared.word.Word.{Word}
use Rattle.grammar_terms.specs.Cuts.{Has, Tells}
use Rattle.grammar_terms.specs.Grammar.{Syntax}
use Rattle.grammar_terms.specs.Reading.{IsReading}
use Rattle.span_rows.specs.declared.row.Row.{Row}
use Rattle.span_rows.specs.declared.sign.Sign.{Sign}
use Rattle.span_table.specs.Codes.{code_of, IsCode}
use Rattle.span_rows.specs.Rows.{row, Stands}
use Rattle.span_table.specs.Meaning.{AreSound}
use Rattle.span_table.specs.Table.{IsFullTable}
use Rattle.span_table.specs.Choices.{IsFirst, IsOther, IsShown, TellsOf}
use Rattle.span_rows.proofs.Adding.{has_more}
use Rattle.span_table.proofs.Coding.{code_tells}
use Rattle.span_table.proofs.Completing.{child_kept}
use Rattle.span_table.proofs.Sounding.{child_of}

-- ---- the search

pub first_next : (g : Syntax) (sort : ℕ) (rows : List Row) (i : ℕ) (one : Row) → i < length rows → one ≡ get_or rows i one → (Stands g None sort one.key → ⊥)
    → IsFirst g sort (take i rows) None → IsFirst g sort (take (i + 1) rows) None
first_next g sort rows i one within is not before = λ made has stands. elim (has_more rows i one made within is has) [
  | inl old ↦ before made old stands
  | inr same ↦ not (subst (λ r. Stands g None sort r.key) same stands)
]

pub first_none : (g : Syntax) (sort : ℕ) (rows : List Row) (i : ℕ) → length rows ≤ i → IsFirst g sort (take i rows) None → IsFirst g sort rows None
first_none g sort rows i past before = subst (λ rs. IsFirst g sort rs None) (take_all i rows past) before

pub other_next : (g : Syntax) (sort : ℕ) (rows : List Row) (code : List Sign) (i : ℕ) (one : Row) → i < length rows → one ≡ get_or rows i one
    → (Stands g None sort one.key → one.code ≡ code) → IsOther g sort (take i rows) code None → IsOther g sort (take (i + 1) rows) code None
other_next g sort rows code i one within is same_code before = λ made has stands. elim (has_more rows i one made within is has) [
  | inl old ↦ before made old stands
  | inr same ↦ ap (λ (r : Row). r.code) same ∙ same_code (subst (λ r. Stands g None sort r.key) same stands)
]

pub other_none : (g : Syntax) (sort : ℕ) (rows : List Row) (code : List Sign) (i : ℕ) → length rows ≤ i → IsOther g sort (take i rows) code None → IsOther g sort rows code None
other_none g sort rows code i past before = subst (λ rs. IsOther g sort rs code None) (take_all i rows past) before

-- ---- readings

module _ (g : Syntax) (sort : ℕ) (words : List Word) (table : ℕ → ℕ → List Row) (full : IsFullTable g words table) (sound : AreSound g words 0 (length words) (table 0 (length words))) where
  -- each row that may stand there is of a code
  pub are_codes : (made : Row) → Has (table 0 (length words)) made → Stands g None sort made.key → IsCode made.code
  are_codes made has stands =
      let child = child_of g words None sort 0 (length words) made.key made.code (sound made has) stands in
      record { shape = child.shape; is = child.code_is }

  shown_read : (shape : Shape) → IsShown g sort (table 0 (length words)) shape → IsReading g sort words shape
  shown_read shape shown =
      let child = child_of g words None sort 0 (length words) shown.made.key shown.made.code (sound shown.made shown.has) shown.stands in
      subst (IsReading g sort words) (code_tells child.shape shape (sym child.code_is ∙ shown.code_is)) child.child

  pub readings_tell : (readings : Readings) → TellsOf g sort (table 0 (length words)) readings → Tells (IsReading g sort words) readings
  readings_tell Zero none = λ shape reading.
      let child = child_kept g words table full None sort 0 (length words) shape reading in
      elim child.kept [
        | inl has ↦ none (row child.key (code_of shape)) has child.stands
        | inr two ↦ none (row child.key two.one) two.has_one child.stands
      ]
  readings_tell (One only) tells = (
    shown_read only tells.0,
    λ shape reading.
        let child = child_kept g words table full None sort 0 (length words) shape reading in
        elim child.kept [
          | inl has ↦ code_tells shape only (tells.1 (row child.key (code_of shape)) has child.stands)
          | inr two ↦ absurd (two.differ (tells.1 (row child.key two.one) two.has_one child.stands ∙ sym (tells.1 (row child.key two.other) two.has_other child.stands)))
        ],
  )
  readings_tell (Two first second) tells = (shown_read first tells.0, shown_read second tells.1, tells.2)

pub told_ok : {E : Type 0} (P Q : Readings → Type 0) (result : Result Readings E) → ((readings : Readings) → P readings → Q readings) → IfOk result P → IfOk result Q
told_ok P Q (Ok readings) more told = more readings told
told_ok P Q (Err error) more told = told
