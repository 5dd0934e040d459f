-- A content has one place of a first operator on a left side, or none.
use Rattle.std.proofs.Common.{ℕ, ◌≡◌, inl, inr, List, Option, Some, None, refl, sym, ap, ◌∙◌, true≢false}
use Rattle.std.proofs.lemmas.Bool.{cases_order}
use Rattle.grammar_terms.specs.declared.shape.Shape.{Shape}
use Rattle.grammar_terms.specs.declared.word.Word.{Word}
use Rattle.grammar_terms.specs.Grammar.{Syntax}
use Rattle.rule_terms.specs.declared.defs.Kind.{Kind}
use Rattle.rule_contents.specs.declared.reading.Form.{Form}
use Rattle.rule_contents.specs.declared.reading.Form.TheVariants.{Sides, Made, Expression}
use Rattle.rule_contents.specs.Operators.{with_marks, IsFirstPlace, IsPlaceAt, IsOperatorPlace}
use Rattle.rule_contents.specs.Readings.{content_sort, made_sort}

module _ (g : Syntax) (words : List Word) (shape : Shape) where
  first_same : (marks : Syntax) (sort one other : ℕ) → IsFirstPlace g marks sort words shape one → IsFirstPlace g marks sort words shape other → one ≡ other
  first_same marks sort one other (inl first) (inl second) = elim (cases_order one other) [
    | inl same ↦ same
    | inr (inl less) ↦ absurd (second.1 one less first.0)
    | inr (inr more) ↦ absurd (first.1 other more second.0)
  ]
  first_same marks sort one other (inl first) (inr second) = absurd (second.1 one first.0)
  first_same marks sort one other (inr first) (inl second) = absurd (first.1 other second.0)
  first_same marks sort one other (inr first) (inr second) = first.0 ∙ sym second.0

  place_same : (kind : Kind) (sort : ℕ) (one other : Option ℕ) → IsPlaceAt g kind sort words shape one → IsPlaceAt g kind sort words shape other → one ≡ other
  place_same kind sort None None first second = refl
  place_same kind sort None (Some other) first second = absurd (true≢false (sym second.0 ∙ first))
  place_same kind sort (Some one) None first second = absurd (true≢false (sym first.0 ∙ second))
  place_same kind sort (Some one) (Some other) first second = ap Some (first_same (with_marks g kind) sort one other first.1 second.1)

-- One place, or none.
pub one_operator_place : (g : Syntax) (kind : Kind) (form : Form) (words : List Word) (shape : Shape) (one other : Option ℕ)
    → IsOperatorPlace g kind form words shape one → IsOperatorPlace g kind form words shape other → one ≡ other
one_operator_place g kind Sides words shape one other first second = place_same g words shape kind (content_sort g) one other first second
one_operator_place g kind Made words shape one other first second = place_same g words shape kind (made_sort g) one other first second
one_operator_place g kind Expression words shape one other first second = first ∙ sym second
