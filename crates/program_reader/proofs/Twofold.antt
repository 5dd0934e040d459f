-- Two different readings of a program's tokens have different values, of which one is the lesser.
use Rattle.std.proofs.Common.{ℕ, ◌≡◌, ◌⊎◌, inl, inr, List, sym, ap, ◌∙◌}
use Rattle.std.specs.declared.cmp.Ordering.TheVariants.{Less, Equal, Greater}
use Rattle.std.specs.Ordering.{ordering_reverse}
use Rattle.k_terms.specs.declared.value.Value.{Value}
use Rattle.k_terms.specs.Value.{value_cmp}
use Rattle.k_terms.proofs.OrderLaws.{value_cmp_total, value_cmp_ties}
use Rattle.grammar_terms.specs.declared.shape.Shape.{Shape}
use Rattle.grammar_terms.specs.declared.word.Word.{Word}
use Rattle.grammar_terms.specs.Grammar.{Syntax}
use Rattle.grammar_terms.specs.Reading.{IsReading}
use Rattle.grammar_terms.specs.Values.{value_of}
use Rattle.grammar_terms.proofs.Telling.{values_tell}
use Rattle.program_reader.specs.Readings.{AreAmbiguous}

module _ (g : Syntax) (sort : ℕ) (words : List Word) (one other : Shape) (is_one : IsReading g sort words one) (is_other : IsReading g sort words other) (differ : one ≡ other → ⊥)
    (v w : Value) (value_one : v ≡ value_of g.prods words sort one) (value_other : w ≡ value_of g.prods words sort other) where
  pub lesser_first : (value_cmp v w ≡ Less) ⊎ (value_cmp v w ≡ Equal) → AreAmbiguous g sort words v w
  lesser_first order = record {
    one = one;
    other = other;
    is_one = is_one;
    is_other = is_other;
    differ = differ;
    value_one = value_one;
    value_other = value_other;
    ordered = λ program. elim order [
      | inl less ↦ less
      | inr tie ↦ absurd (differ (values_tell g sort words one other program is_one is_other (sym value_one ∙ value_cmp_ties v w tie ∙ value_other)))
    ];
  }

  pub lesser_second : Greater ≡ value_cmp v w → AreAmbiguous g sort words w v
  lesser_second order = record {
    one = other;
    other = one;
    is_one = is_other;
    is_other = is_one;
    differ = λ same. differ (sym same);
    value_one = value_other;
    value_other = value_one;
    ordered = λ program. value_cmp_total.antisymm w v ∙ ap ordering_reverse (sym order);
  }
