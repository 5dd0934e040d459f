-- A content has one form, and either one reading or one fault.
use Rattle.std.proofs.Common.{ℕ, ◌≡◌, inl, inr, Bool, true, false, cond, List, Option, Some, None, option_map, refl, sym, ap, ◌∙◌, subst}
use Rattle.grammar_terms.specs.declared.shape.Shape.{Shape}
use Rattle.grammar_terms.specs.declared.word.Word.{Word}
use Rattle.grammar_terms.specs.Grammar.{Syntax}
use Rattle.rule_terms.specs.declared.defs.Kind.{Kind}
use Rattle.rule_contents.specs.declared.reading.Form.{Form}
use Rattle.rule_contents.specs.declared.reading.Form.TheVariants.{Sides, Made, Expression}
use Rattle.rule_contents.specs.declared.reading.ContentFault.{ContentFault}
use Rattle.rule_contents.specs.declared.reading.ContentFault.TheVariants.{NoReading, Ambiguous, Memory}
use Rattle.rule_contents.specs.Readings.{IsOnly, HasNone, HasTwo, content_sort, made_sort, whole_sort, sort_of_form, IsAsked, IsContent, IsContentFault}

none_some : (sort : ℕ) → None ≡ Some sort → ⊥
none_some sort same = cc

some_same : (one other : ℕ) → Some one ≡ Some other → one ≡ other
some_same one other same = cc

only_none : (g : Syntax) (sort : ℕ) (words : List Word) (shape : Shape) → IsOnly g sort words shape → HasNone g sort words → ⊥
only_none g sort words shape only none = none shape only.0

only_two : (g : Syntax) (sort : ℕ) (words : List Word) (shape : Shape) → IsOnly g sort words shape → HasTwo g sort words → ⊥
only_two g sort words shape only two = two.differ (only.1 two.one two.is_one ∙ sym (only.1 two.other two.is_other))

two_none : (g : Syntax) (sort : ℕ) (words : List Word) → HasTwo g sort words → HasNone g sort words → ⊥
two_none g sort words two none = none two.one two.is_one

module _ (g : Syntax) (kind : Kind) (is_new : Bool) (words : List Word) where
  -- where sides have a reading, no other form is asked for
  not_asked : (sort : ℕ) → Some (content_sort g) ≡ Some sort → (HasNone g sort words → ⊥) → HasNone g (content_sort g) words → ⊥
  not_asked sort is reads none = reads (subst (λ s. HasNone g s words) (some_same (content_sort g) sort is) none)

  asked_other : (form : Form) → (form ≡ Sides → ⊥) → IsAsked g words form → HasNone g (content_sort g) words
  asked_other form not (inl sides) = absurd (not sides)
  asked_other form not (inr none) = none

  no_made : Made ≡ Sides → ⊥
  no_made same = cc

  no_expression : Expression ≡ Sides → ⊥
  no_expression same = cc

  only_new : (b : Bool) (one other : Option ℕ) (sort later : ℕ) → cond b None one ≡ Some sort → cond b other None ≡ Some later → ⊥
  only_new true one other sort later is also = none_some sort is
  only_new false one other sort later is also = none_some later also

  -- one form alone is read
  one_form : (form later : Form) (sort other : ℕ) → sort_of_form g kind is_new form ≡ Some sort → sort_of_form g kind is_new later ≡ Some other
      → IsAsked g words form → IsAsked g words later → (HasNone g sort words → ⊥) → (HasNone g other words → ⊥) → form ≡ later
  one_form Sides Sides sort other is also asked asked_too reads reads_too = refl
  one_form Sides Made sort other is also asked asked_too reads reads_too = absurd (not_asked sort is reads (asked_other Made no_made asked_too))
  one_form Sides Expression sort other is also asked asked_too reads reads_too = absurd (not_asked sort is reads (asked_other Expression no_expression asked_too))
  one_form Made Sides sort other is also asked asked_too reads reads_too = absurd (not_asked other also reads_too (asked_other Made no_made asked))
  one_form Made Made sort other is also asked asked_too reads reads_too = refl
  one_form Made Expression sort other is also asked asked_too reads reads_too =
      absurd (only_new is_new (option_map (λ s. made_sort g) (whole_sort kind)) (whole_sort kind) sort other is also)
  one_form Expression Sides sort other is also asked asked_too reads reads_too = absurd (not_asked other also reads_too (asked_other Expression no_expression asked))
  one_form Expression Made sort other is also asked asked_too reads reads_too =
      absurd (only_new is_new (option_map (λ s. made_sort g) (whole_sort kind)) (whole_sort kind) other sort also is)
  one_form Expression Expression sort other is also asked asked_too reads reads_too = refl

  same_sort : (form later : Form) (sort other : ℕ) → form ≡ later → sort_of_form g kind is_new form ≡ Some sort → sort_of_form g kind is_new later ≡ Some other → sort ≡ other
  same_sort form later sort other same is also = some_same sort other (sym is ∙ ap (sort_of_form g kind is_new) same ∙ also)

  pub one_content : (form later : Form) (one other : Shape) → IsContent g kind is_new words form one → IsContent g kind is_new words later other → (form ≡ later) × (one ≡ other)
  one_content form later one other first second =
      let same : form ≡ later = one_form form later first.sort second.sort first.sort_is second.sort_is first.asked second.asked
      (only_none g first.sort words one first.only) (only_none g second.sort words other second.only) in
      let sorts : first.sort ≡ second.sort = same_sort form later first.sort second.sort same first.sort_is second.sort_is in
      (same, second.only.1 one (subst (λ s. IsOnly g s words one) sorts first.only).0)

  pub not_both : (form : Form) (shape : Shape) (fault : ContentFault) → IsContent g kind is_new words form shape → IsContentFault g kind is_new words fault → ⊥
  not_both form shape NoReading content none = only_none g content.sort words shape content.only (none form content.sort content.sort_is)
  not_both form shape Ambiguous content two =
      let same : form ≡ two.form = one_form form two.form content.sort two.sort content.sort_is two.sort_is content.asked two.asked
      (only_none g content.sort words shape content.only) (two_none g two.sort words two.two) in
      let sorts : content.sort ≡ two.sort = same_sort form two.form content.sort two.sort same content.sort_is two.sort_is in
      only_two g two.sort words shape (subst (λ s. IsOnly g s words shape) sorts content.only) two.two
  not_both form shape Memory content fault = fault

  pub one_fault : (one other : ContentFault) → IsContentFault g kind is_new words one → IsContentFault g kind is_new words other → one ≡ other
  one_fault NoReading NoReading first second = refl
  one_fault NoReading Ambiguous first second = absurd (two_none g second.sort words second.two (first second.form second.sort second.sort_is))
  one_fault NoReading Memory first second = absurd second
  one_fault Ambiguous NoReading first second = absurd (two_none g first.sort words first.two (second first.form first.sort first.sort_is))
  one_fault Ambiguous Ambiguous first second = refl
  one_fault Ambiguous Memory first second = absurd second
  one_fault Memory other first second = absurd first
