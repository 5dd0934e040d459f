-- The contents and the condition of a rule have one reading or one fault, never both.
use Rattle.std.proofs.Common.{◌≡◌, ◌⊎◌, inl, inr, ℕ, ◌+◌, List, [], ◌∷◌, Option, Some, None, option_map, refl, sym, ap, ◌∙◌, subst}
use Rattle.k_terms.specs.Sorts.{sort_bool}
use Rattle.grammar_terms.specs.Grammar.{Syntax}
use Rattle.grammar_terms.specs.declared.shape.Shape.{Shape}
use Rattle.grammar_terms.specs.declared.word.Word.{Word}
use Rattle.rule_terms.specs.declared.defs.CellShape.{CellShape}
use Rattle.rule_tokens.specs.declared.token.RuleToken.{RuleToken}
use Rattle.rule_cells.specs.declared.form.RuleForm.{RuleForm}
use Rattle.rule_contents.specs.declared.reading.Form.{Form}
use Rattle.rule_contents.specs.declared.reading.ContentFault.{ContentFault}
use Rattle.rule_contents.specs.declared.reading.ContentFault.TheVariants.{NoReading, Ambiguous, Memory}
use Rattle.rule_contents.specs.Contents.{with_content}
use Rattle.rule_contents.specs.Operators.{IsOperatorPlace}
use Rattle.rule_contents.specs.Readings.{IsOnly, IsFault}
use Rattle.rule_contents.proofs.Asking.{one_content, one_fault, not_both}
use Rattle.rule_contents.proofs.Placing.{one_operator_place}
use Rattle.rule_drafts.specs.declared.reading.Condition.{Condition}
use Rattle.rule_drafts.specs.declared.reading.Reading.{Reading}
use Rattle.rule_drafts.specs.declared.reading.RuleReading.{RuleReading}
use Rattle.rule_drafts.specs.Cells.{kind_of}
use Rattle.rule_reader.specs.declared.contents.Content.{Content}
use Rattle.rule_reader.specs.declared.refusal.RuleFault.{RuleFault}
use Rattle.rule_reader.specs.Contents.{contents_of}
use Rattle.rule_reader.specs.Places.{between, place_of, condition_place}
use Rattle.rule_reader.specs.Told.{told_content}
use Rattle.rule_reader.specs.Readings.{IsReadAs, AreReadAs, IsUnreadAs, IsFirstUnread, IsConditionAs, IsBadCondition, IsNoCondition, IsReadForm, IsUnreadForm}

-- ---- contents

module _ (g : Syntax) (cells : List CellShape) (words : List Word) where
  same_reading : (content : Content) (one other : Reading) → IsReadAs g cells words content one → IsReadAs g cells words content other → one ≡ other
  same_reading content one other is also =
      let kind = kind_of cells content.cell in
      let part = between words content.first content.past in
      let same = one_content (with_content g kind) kind content.is_new part one.form other.form one.shape other.shape is.is also.is in
      let place = one_operator_place g kind one.form part one.shape is.place also.place is.place_is
      (subst (λ (form : Form). IsOperatorPlace g kind form part one.shape also.place) (sym same.0)
      (subst (λ (shape : Shape). IsOperatorPlace g kind other.form part shape also.place) (sym same.1) also.place_is)) in
      let operator = is.operator_is ∙ ap (option_map (λ at. content.first + at)) place ∙ sym also.operator_is in
      let first = is.first_is ∙ sym also.first_is in
      λ i. record { first = first i; form = same.0 i; shape = same.1 i; operator = operator i }

  pub same_readings : (contents : List Content) (some others : List Reading) → AreReadAs g cells words contents some → AreReadAs g cells words contents others → some ≡ others
  same_readings [] [] [] are also = refl
  same_readings [] [] (o ∷ os) are also = absurd also
  same_readings [] (r ∷ rs) others are also = absurd are
  same_readings (c ∷ cs) [] others are also = absurd are
  same_readings (c ∷ cs) (r ∷ rs) [] are also = absurd also
  same_readings (c ∷ cs) (r ∷ rs) (o ∷ os) are also =
      let first = same_reading c r o are.0 also.0 in
      let rest = same_readings cs rs os are.1 also.1 in
      λ i. first i ∷ rest i

module _ (g : Syntax) (cells : List CellShape) (tokens : List RuleToken) (words : List Word) (behind : ℕ) where
  read_or_unread : (content : Content) (reading : Reading) (fault : RuleFault) → IsReadAs g cells words content reading → IsUnreadAs g cells tokens words behind content fault → ⊥
  read_or_unread content reading fault is bad =
      let kind = kind_of cells content.cell in
      not_both (with_content g kind) kind content.is_new (between words content.first content.past) reading.form reading.shape bad.why is.is bad.is

  same_unread : (content : Content) (one other : RuleFault) → IsUnreadAs g cells tokens words behind content one → IsUnreadAs g cells tokens words behind content other → one ≡ other
  same_unread content one other is also =
      let kind = kind_of cells content.cell in
      let why = one_fault (with_content g kind) kind content.is_new (between words content.first content.past) is.why also.why is.is also.is in
      is.told ∙ ap (told_content (place_of tokens behind content.first)) why ∙ sym also.told

  pub same_first : (contents : List Content) (one other : RuleFault) → IsFirstUnread g cells tokens words behind contents one → IsFirstUnread g cells tokens words behind contents other → one ≡ other
  same_first [] one other is also = absurd is
  same_first (c ∷ cs) one other (inl is) (inl also) = same_unread c one other is also
  same_first (c ∷ cs) one other (inl is) (inr later) = absurd (read_or_unread c later.0.0 one later.0.1 is)
  same_first (c ∷ cs) one other (inr later) (inl also) = absurd (read_or_unread c later.0.0 other later.0.1 also)
  same_first (c ∷ cs) one other (inr later) (inr also) = same_first cs one other later.1 also.1

  pub all_or_first : (contents : List Content) (readings : List Reading) (fault : RuleFault) → AreReadAs g cells words contents readings
      → IsFirstUnread g cells tokens words behind contents fault → ⊥
  all_or_first [] readings fault are bad = bad
  all_or_first (c ∷ cs) [] fault are bad = are
  all_or_first (c ∷ cs) (r ∷ rs) fault are (inl bad) = read_or_unread c r fault are.0 bad
  all_or_first (c ∷ cs) (r ∷ rs) fault are (inr later) = all_or_first cs rs fault are.1 later.1

-- ---- the condition

module _ (g : Syntax) (sort : ℕ) (words : List Word) where
  one_why : (one other : ContentFault) → IsFault g sort words one → IsFault g sort words other → one ≡ other
  one_why NoReading NoReading is also = refl
  one_why NoReading Ambiguous is also = absurd (is also.one also.is_one)
  one_why NoReading Memory is also = absurd also
  one_why Ambiguous NoReading is also = absurd (also is.one is.is_one)
  one_why Ambiguous Ambiguous is also = refl
  one_why Ambiguous Memory is also = absurd also
  one_why Memory other is also = absurd is

  only_or_why : (shape : Shape) (why : ContentFault) → IsOnly g sort words shape → IsFault g sort words why → ⊥
  only_or_why shape NoReading only none = none shape only.0
  only_or_why shape Ambiguous only two = two.differ (only.1 two.one two.is_one ∙ sym (only.1 two.other two.is_other))
  only_or_why shape Memory only none = none

module _ (g : Syntax) (tokens : List RuleToken) (words : List Word) where
  pub same_condition : (range : Option (ℕ × ℕ)) (one other : Option Condition) → IsConditionAs g words range one → IsConditionAs g words range other → one ≡ other
  same_condition None None None is also = refl
  same_condition None None (Some c) is also = absurd also
  same_condition None (Some c) other is also = absurd is
  same_condition (Some range) None other is also = absurd is
  same_condition (Some range) (Some c) None is also = absurd also
  same_condition (Some range) (Some one) (Some other) is also =
      let first = is.0 ∙ sym also.0 in
      let shape = also.1.1 one.shape is.1.0 in
      λ i. Some (record { first = first i; shape = shape i })

  pub same_bad : (range : Option (ℕ × ℕ)) (one other : RuleFault) → IsNoCondition g tokens words range one → IsNoCondition g tokens words range other → one ≡ other
  same_bad None one other is also = absurd is
  same_bad (Some range) one other is also =
      is.told ∙ ap (told_content (condition_place tokens range.0)) (one_why g sort_bool (between words range.0 range.1) is.why also.why is.is also.is) ∙ sym also.told

  pub condition_or_bad : (range : Option (ℕ × ℕ)) (condition : Option Condition) (fault : RuleFault) → IsConditionAs g words range condition → IsNoCondition g tokens words range fault → ⊥
  condition_or_bad None condition fault is bad = bad
  condition_or_bad (Some range) None fault is bad = is
  condition_or_bad (Some range) (Some c) fault is bad = only_or_why g sort_bool (between words range.0 range.1) c.shape bad.why is.1 bad.is

-- ---- both

module _ (g : Syntax) (cells : List CellShape) (tokens : List RuleToken) (words : List Word) (at behind : ℕ) (form : RuleForm) where
  pub one_form_reading : (one other : RuleReading) → IsReadForm g cells words at form one → IsReadForm g cells words at form other → one ≡ other
  one_form_reading one other is also =
      let start = is.at_is ∙ sym also.at_is in
      let body = is.body_is ∙ sym also.body_is in
      let contents = same_readings g cells words (contents_of cells form.body) one.contents other.contents is.contents_are also.contents_are in
      let condition = same_condition g tokens words form.condition one.condition other.condition is.condition_is also.condition_is in
      λ i. record { at = start i; body = body i; contents = contents i; condition = condition i }

  pub one_form_fault : (one other : RuleFault) → IsUnreadForm g cells tokens words behind form one → IsUnreadForm g cells tokens words behind form other → one ≡ other
  one_form_fault one other (inl is) (inl also) = same_first g cells tokens words behind (contents_of cells form.body) one other is also
  one_form_fault one other (inl is) (inr also) = absurd (all_or_first g cells tokens words behind (contents_of cells form.body) also.0.0 one also.0.1 is)
  one_form_fault one other (inr is) (inl also) = absurd (all_or_first g cells tokens words behind (contents_of cells form.body) is.0.0 other is.0.1 also)
  one_form_fault one other (inr is) (inr also) = same_bad g tokens words form.condition one other is.1 also.1

  pub form_reading_or_fault : (reading : RuleReading) (fault : RuleFault) → IsReadForm g cells words at form reading → IsUnreadForm g cells tokens words behind form fault → ⊥
  form_reading_or_fault reading fault is (inl bad) = all_or_first g cells tokens words behind (contents_of cells form.body) reading.contents fault is.contents_are bad
  form_reading_or_fault reading fault is (inr bad) = condition_or_bad g tokens words form.condition reading.condition fault is.condition_is bad.1
