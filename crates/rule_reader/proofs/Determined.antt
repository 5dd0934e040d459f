-- The text of a rule has one draft or one refusal, never both.
use Rattle.std.proofs.Common.{◌≡◌, ◌⊎◌, inl, inr, ℕ, Bool, true, false, true≢false, List, map, Option, Some, None, refl, sym, ap, ◌∙◌, subst}
use Rattle.k_lexer.specs.declared.token.Token.{Token}
use Rattle.k_terms.specs.declared.value.Symbol.{Symbol}
use Rattle.grammar_terms.specs.Grammar.{Syntax}
use Rattle.file_reader.specs.declared.sentence.Sentence.{Sentence}
use Rattle.rule_terms.specs.declared.defs.CellShape.{CellShape}
use Rattle.rule_terms.specs.declared.rule.Draft.{Draft}
use Rattle.rule_tokens.specs.declared.token.RuleToken.{RuleToken}
use Rattle.rule_tokens.specs.declared.split.RuleSplit.{RuleSplit}
use Rattle.rule_tokens.specs.declared.sorts.VariableFault.{VariableFault}
use Rattle.rule_tokens.specs.declared.sorts.VariableFault.TheVariants.{Memory as NoVariableMemory}
use Rattle.rule_tokens.specs.Variables.{variables, AreSorts, IsVariableFault}
use Rattle.rule_tokens.proofs.Splitting.{one_rule_split}
use Rattle.rule_tokens.proofs.Deciding.{one_sorts, one_variable_fault, sorts_or_fault}
use Rattle.rule_cells.specs.declared.form.FormFault.{FormFault}
use Rattle.rule_cells.specs.declared.form.FormFault.TheVariants.{NoReading as NoForm, Memory as NoFormMemory}
use Rattle.rule_cells.specs.declared.form.RuleForm.{RuleForm}
use Rattle.rule_cells.specs.Forms.{IsForm, IsFormFault}
use Rattle.rule_cells.proofs.Single.{one_form, one_place, form_or_place}
use Rattle.rule_contents.specs.Words.{word_of}
use Rattle.rule_drafts.specs.declared.fault.DraftFault.{DraftFault}
use Rattle.rule_drafts.specs.declared.fault.DraftFault.TheVariants.{PatternForm as BadForm, NotBoundLeft as Unbound, Memory as NoDraftMemory}
use Rattle.rule_drafts.specs.declared.reading.RuleReading.{RuleReading}
use Rattle.rule_drafts.specs.Drafts.{IsDraft, IsDraftFault, IsTold}
use Rattle.rule_drafts.proofs.Single.{one_draft as one_made, one_fault as one_draft_fault, draft_or_fault}
use Rattle.rule_parts.specs.Productions.{productions_of}
use Rattle.rule_reader.specs.declared.refusal.RuleFault.{RuleFault}
use Rattle.rule_reader.specs.declared.refusal.RuleFault.TheVariants.{Memory}
use Rattle.rule_reader.specs.declared.refusal.RuleRefusal.{RuleRefusal}
use Rattle.rule_reader.specs.Contents.{cell_k}
use Rattle.rule_reader.specs.Told.{is_memory, split_fault, told_variable, told_form, told_draft}
use Rattle.rule_reader.specs.Readings.{IsReadForm, IsUnreadForm}
use Rattle.rule_reader.specs.Rules.{IsReadDraft, HasDraftFault, HasReadFault, IsFormedDraft, HasNoForm, HasLaterFault, HasFormedFault, IsTokensDraft, HasNoSorts, HasSortedFault, HasTokensFault, IsSplitDraft, HasInnerFault, HasSplitFault, rule_at, base_of, behind_of, IsRule, IsRefused}
use Rattle.rule_reader.specs.Laws.{HasOneDraft, HasOneRefusal, HasNotBoth}
use Rattle.rule_reader.proofs.OneReading.{one_form_reading, one_form_fault, form_reading_or_fault}

-- a fault that is told as something else than want of memory
abbrev Proper : RuleFault → Type 0
Proper fault = is_memory fault ≡ false

not_memory : (fault : RuleFault) → Proper fault → fault ≡ Memory → ⊥
not_memory fault proper same = true≢false (sym (ap is_memory same) ∙ proper)

told_why : (names : List (List ℕ)) (tokens : List RuleToken) (behind : ℕ) (why : DraftFault) (fault : RuleFault) → Proper fault → fault ≡ told_draft names tokens behind why → IsTold why
told_why names tokens behind (BadForm token) fault proper told = tt
told_why names tokens behind (Unbound var) fault proper told = tt
told_why names tokens behind NoDraftMemory fault proper told = absurd (not_memory fault proper told)

module _ (g : Syntax) (cells : List CellShape) (names : List (List ℕ)) (text : List ℕ) (tokens : List RuleToken) (at behind : ℕ) where
  -- ---- the draft of a rule of a form

  module _ (sorts : List (Symbol × ℕ)) (form : RuleForm) where
    same_read : (one other : Draft) → IsReadDraft g cells names text tokens at behind sorts form one → IsReadDraft g cells names text tokens at behind sorts form other → one ≡ other
    same_read one other is also =
        let words = map (word_of sorts) tokens in
        let reading = one_form_reading g cells tokens words at behind form is.reading also.reading is.read also.read in
        one_made (cell_k cells) (productions_of g) cells tokens words is.reading one other is.is
        (subst (λ (r : RuleReading). IsDraft (cell_k cells) (productions_of g) cells tokens words r other) (sym reading) also.is)

    same_draft_fault : (one other : RuleFault) → Proper one → Proper other → HasDraftFault g cells names text tokens at behind sorts form one
        → HasDraftFault g cells names text tokens at behind sorts form other → one ≡ other
    same_draft_fault one other proper too is also =
        let words = map (word_of sorts) tokens in
        let reading = one_form_reading g cells tokens words at behind form is.reading also.reading is.read also.read in
        is.told
        ∙ ap (told_draft names tokens behind) (one_draft_fault (cell_k cells) (productions_of g) cells tokens words is.reading is.why also.why
        (told_why names tokens behind is.why one proper is.told) (told_why names tokens behind also.why other too also.told) is.is
        (subst (λ (r : RuleReading). IsDraftFault (cell_k cells) (productions_of g) cells tokens words r also.why) (sym reading) also.is))
        ∙ sym also.told

    same_read_fault : (one other : RuleFault) → Proper one → Proper other → HasReadFault g cells names text tokens at behind sorts form one
        → HasReadFault g cells names text tokens at behind sorts form other → one ≡ other
    same_read_fault one other proper too (inl is) (inl also) = one_form_fault g cells tokens (map (word_of sorts) tokens) at behind form one other is also
    same_read_fault one other proper too (inl is) (inr also) =
        absurd (form_reading_or_fault g cells tokens (map (word_of sorts) tokens) at behind form also.reading one also.read is)
    same_read_fault one other proper too (inr is) (inl also) =
        absurd (form_reading_or_fault g cells tokens (map (word_of sorts) tokens) at behind form is.reading other is.read also)
    same_read_fault one other proper too (inr is) (inr also) = same_draft_fault one other proper too is also

    read_or_fault : (draft : Draft) (fault : RuleFault) → Proper fault → IsReadDraft g cells names text tokens at behind sorts form draft
        → HasReadFault g cells names text tokens at behind sorts form fault → ⊥
    read_or_fault draft fault proper is (inl bad) = form_reading_or_fault g cells tokens (map (word_of sorts) tokens) at behind form is.reading fault is.read bad
    read_or_fault draft fault proper is (inr bad) =
        let words = map (word_of sorts) tokens in
        let reading = one_form_reading g cells tokens words at behind form is.reading bad.reading is.read bad.read in
        draft_or_fault (cell_k cells) (productions_of g) cells tokens words is.reading draft bad.why (told_why names tokens behind bad.why fault proper bad.told) is.is
        (subst (λ (r : RuleReading). IsDraftFault (cell_k cells) (productions_of g) cells tokens words r bad.why) (sym reading) bad.is)

  -- ---- the form

  form_place : (why : FormFault) (fault : RuleFault) → Proper fault → fault ≡ told_form why → (place : ℕ) × (why ≡ NoForm place)
  form_place (NoForm place) fault proper told = (place, refl)
  form_place NoFormMemory fault proper told = absurd (not_memory fault proper told)

  same_no_form : (one other : RuleFault) → Proper one → Proper other → HasNoForm g cells names text tokens at behind one → HasNoForm g cells names text tokens at behind other → one ≡ other
  same_no_form one other proper too is also =
      let place = form_place is.why one proper is.told in
      let other_place = form_place also.why other too also.told in
      let same = one_place cells text tokens place.0 other_place.0 (subst (IsFormFault cells text tokens) place.1 is.is) (subst (IsFormFault cells text tokens) other_place.1 also.is) in
      is.told ∙ ap told_form (place.1 ∙ ap NoForm same ∙ sym other_place.1) ∙ sym also.told

  no_form : (form : RuleForm) (fault : RuleFault) → Proper fault → IsForm cells text tokens form → HasNoForm g cells names text tokens at behind fault → ⊥
  no_form form fault proper is bad =
      let place = form_place bad.why fault proper bad.told in
      form_or_place cells text tokens form place.0 is (subst (IsFormFault cells text tokens) place.1 bad.is)

  module _ (sorts : List (Symbol × ℕ)) where
    same_formed : (one other : Draft) → IsFormedDraft g cells names text tokens at behind sorts one → IsFormedDraft g cells names text tokens at behind sorts other → one ≡ other
    same_formed one other is also =
        let form = one_form cells text tokens is.form also.form is.form_is also.form_is in
        same_read sorts is.form one other is.is (subst (λ (f : RuleForm). IsReadDraft g cells names text tokens at behind sorts f other) (sym form) also.is)

    same_formed_fault : (one other : RuleFault) → Proper one → Proper other → HasFormedFault g cells names text tokens at behind sorts one
        → HasFormedFault g cells names text tokens at behind sorts other → one ≡ other
    same_formed_fault one other proper too (inl is) (inl also) = same_no_form one other proper too is also
    same_formed_fault one other proper too (inl is) (inr also) = absurd (no_form also.form one proper also.form_is is)
    same_formed_fault one other proper too (inr is) (inl also) = absurd (no_form is.form other too is.form_is also)
    same_formed_fault one other proper too (inr is) (inr also) =
        let form = one_form cells text tokens is.form also.form is.form_is also.form_is in
        same_read_fault sorts is.form one other proper too is.is (subst (λ (f : RuleForm). HasReadFault g cells names text tokens at behind sorts f other) (sym form) also.is)

    formed_or_fault : (draft : Draft) (fault : RuleFault) → Proper fault → IsFormedDraft g cells names text tokens at behind sorts draft
        → HasFormedFault g cells names text tokens at behind sorts fault → ⊥
    formed_or_fault draft fault proper is (inl bad) = no_form is.form fault proper is.form_is bad
    formed_or_fault draft fault proper is (inr bad) =
        let form = one_form cells text tokens is.form bad.form is.form_is bad.form_is in
        read_or_fault sorts is.form draft fault proper is.is (subst (λ (f : RuleForm). HasReadFault g cells names text tokens at behind sorts f fault) (sym form) bad.is)

  -- ---- the sorts of variables

  variable_memory : (why : VariableFault) (fault : RuleFault) → Proper fault → fault ≡ told_variable g names why → why ≡ NoVariableMemory → ⊥
  variable_memory why fault proper told same = not_memory fault proper (told ∙ ap (told_variable g names) same)

  same_no_sorts : (one other : RuleFault) → Proper one → Proper other → HasNoSorts g cells names text tokens at behind one → HasNoSorts g cells names text tokens at behind other → one ≡ other
  same_no_sorts one other proper too is also =
      elim (one_variable_fault (variables tokens) is.why also.why is.is also.is) [
        | inl memory ↦ absurd (variable_memory is.why one proper is.told memory)
        | inr more ↦ elim more [
          | inl memory ↦ absurd (variable_memory also.why other too also.told memory)
          | inr same ↦ is.told ∙ ap (told_variable g names) same ∙ sym also.told
        ]
      ]

  no_sorts : (sorts : List (Symbol × ℕ)) (fault : RuleFault) → Proper fault → AreSorts (variables tokens) sorts → HasNoSorts g cells names text tokens at behind fault → ⊥
  no_sorts sorts fault proper are bad = variable_memory bad.why fault proper bad.told (sorts_or_fault (variables tokens) sorts bad.why are bad.is)

  same_tokens : (one other : Draft) → IsTokensDraft g cells names text tokens at behind one → IsTokensDraft g cells names text tokens at behind other → one ≡ other
  same_tokens one other is also =
      let sorts = one_sorts (variables tokens) is.sorts also.sorts is.sorts_are also.sorts_are in
      same_formed is.sorts one other is.is (subst (λ (s : List (Symbol × ℕ)). IsFormedDraft g cells names text tokens at behind s other) (sym sorts) also.is)

  same_tokens_fault : (one other : RuleFault) → Proper one → Proper other → HasTokensFault g cells names text tokens at behind one
      → HasTokensFault g cells names text tokens at behind other → one ≡ other
  same_tokens_fault one other proper too (inl is) (inl also) = same_no_sorts one other proper too is also
  same_tokens_fault one other proper too (inl is) (inr also) = absurd (no_sorts also.sorts one proper also.sorts_are is)
  same_tokens_fault one other proper too (inr is) (inl also) = absurd (no_sorts is.sorts other too is.sorts_are also)
  same_tokens_fault one other proper too (inr is) (inr also) =
      let sorts = one_sorts (variables tokens) is.sorts also.sorts is.sorts_are also.sorts_are in
      same_formed_fault is.sorts one other proper too is.is (subst (λ (s : List (Symbol × ℕ)). HasFormedFault g cells names text tokens at behind s other) (sym sorts) also.is)

  tokens_or_fault : (draft : Draft) (fault : RuleFault) → Proper fault → IsTokensDraft g cells names text tokens at behind draft
      → HasTokensFault g cells names text tokens at behind fault → ⊥
  tokens_or_fault draft fault proper is (inl bad) = no_sorts is.sorts fault proper is.sorts_are bad
  tokens_or_fault draft fault proper is (inr bad) =
      let sorts = one_sorts (variables tokens) is.sorts bad.sorts is.sorts_are bad.sorts_are in
      formed_or_fault is.sorts draft fault proper is.is (subst (λ (s : List (Symbol × ℕ)). HasFormedFault g cells names text tokens at behind s fault) (sym sorts) bad.is)

-- ---- rules

none_some : (fault : RuleFault) (found : Option RuleFault) → found ≡ None → found ≡ Some fault → ⊥
none_some fault found none some = absurd (no_some fault (sym none ∙ some))
  where
    no_some : (f : RuleFault) → None ≡ Some f → ⊥
    no_some f same = cc

some_same : (one other : RuleFault) → Some one ≡ Some other → one ≡ other
some_same one other same = cc

module _ (g : Syntax) (cells : List CellShape) (names : List (List ℕ)) (text : List ℕ) (split : RuleSplit) (at behind : ℕ) where
  same_split_fault : (one other : RuleFault) → Proper one → Proper other → HasSplitFault g cells names text split at behind one → HasSplitFault g cells names text split at behind other → one ≡ other
  same_split_fault one other proper too (inl is) (inl also) = some_same one other (sym is ∙ also)
  same_split_fault one other proper too (inl is) (inr also) = absurd (none_some one (split_fault split) also.no_fault is)
  same_split_fault one other proper too (inr is) (inl also) = absurd (none_some other (split_fault split) is.no_fault also)
  same_split_fault one other proper too (inr is) (inr also) = same_tokens_fault g cells names text split.tokens at behind one other proper too is.is also.is

  split_or_fault : (draft : Draft) (fault : RuleFault) → Proper fault → IsSplitDraft g cells names text split at behind draft → HasSplitFault g cells names text split at behind fault → ⊥
  split_or_fault draft fault proper is (inl bad) = none_some fault (split_fault split) is.no_fault bad
  split_or_fault draft fault proper is (inr bad) = tokens_or_fault g cells names text split.tokens at behind draft fault proper is.is bad.is

pub one_draft : HasOneDraft
one_draft g cells before text tokens rule after later one other is also =
    let same = one_rule_split g cells before text (base_of rule tokens) after later is.split also.split is.split_is also.split_is in
    let moved : IsSplitDraft g cells after text is.split (rule_at rule) (behind_of rule text tokens) other =
    subst (λ (s : RuleSplit). IsSplitDraft g cells after text s (rule_at rule) (behind_of rule text tokens) other) (sym same.1)
    (subst (λ names. IsSplitDraft g cells names text also.split (rule_at rule) (behind_of rule text tokens) other) (sym same.0) also.is) in
    (same.0, same_tokens g cells after text is.split.tokens (rule_at rule) (behind_of rule text tokens) one other is.is.is moved.is)

pub one_refusal : HasOneRefusal
one_refusal g cells before text tokens rule after later one other is also =
    let same = one_rule_split g cells before text (base_of rule tokens) after later is.split also.split is.split_is also.split_is in
    let moved : HasSplitFault g cells after text is.split (rule_at rule) (behind_of rule text tokens) other.fault =
    subst (λ (s : RuleSplit). HasSplitFault g cells after text s (rule_at rule) (behind_of rule text tokens) other.fault) (sym same.1)
    (subst (λ names. HasSplitFault g cells names text also.split (rule_at rule) (behind_of rule text tokens) other.fault) (sym same.0) also.is) in
    let fault = same_split_fault g cells after text is.split (rule_at rule) (behind_of rule text tokens) one.fault other.fault is.proper also.proper is.is moved in
    let place = is.at_is ∙ sym also.at_is in
    (same.0, λ i. record { at = place i; fault = fault i })

pub draft_or_refusal : HasNotBoth
draft_or_refusal g cells before text tokens rule after later draft refusal is bad =
    let same = one_rule_split g cells before text (base_of rule tokens) after later is.split bad.split is.split_is bad.split_is in
    let moved : HasSplitFault g cells after text is.split (rule_at rule) (behind_of rule text tokens) refusal.fault =
    subst (λ (s : RuleSplit). HasSplitFault g cells after text s (rule_at rule) (behind_of rule text tokens) refusal.fault) (sym same.1)
    (subst (λ names. HasSplitFault g cells names text bad.split (rule_at rule) (behind_of rule text tokens) refusal.fault) (sym same.0) bad.is) in
    split_or_fault g cells after text is.split (rule_at rule) (behind_of rule text tokens) draft refusal.fault bad.proper is.is moved
