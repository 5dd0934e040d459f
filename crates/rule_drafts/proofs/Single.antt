-- What was read of a rule is one draft, or has one fault, but never both.
use Rattle.std.proofs.Common.{◌≡◌, ℕ, zero, suc, ◌<◌, Bool, true, false, List, Option, Some, None, refl, sym, ap, ◌∙◌, arith}
use Rattle.std.specs.Option.{option_map}
use Rattle.rule_tokens.specs.declared.token.RuleToken.{RuleToken}
use Rattle.rule_terms.specs.declared.defs.CellShape.{CellShape}
use Rattle.rule_terms.specs.declared.rule.Draft.{Draft}
use Rattle.rule_parts.specs.declared.argument_sorts.Productions.{Productions}
use Rattle.rule_parts.specs.declared.leaves.Leaf.{Leaf}
use Rattle.rule_parts.specs.declared.terms.Occurrence.{Occurrence}
use Rattle.rule_drafts.specs.declared.fault.DraftFault.{DraftFault}
use Rattle.rule_drafts.specs.declared.fault.DraftFault.TheVariants.{PatternForm, NotBoundLeft, Memory}
use Rattle.rule_drafts.specs.declared.fault.Unbound.{Unbound}
use Rattle.rule_drafts.specs.declared.reading.RuleReading.{RuleReading}
use Rattle.rule_parts.specs.Leaves.{leaves_of}
use Rattle.rule_drafts.specs.Drafts.{name_of, unbound_of, found_by, faults_by, draft_by, is_among, HasNone, IsFirstOf, IsFaultOf, IsDraftBy, IsDraftFaultBy, IsTold}
use Rattle.rule_drafts.specs.Laws.{HasOneDraft, HasOneFault, HasDraftOrFault}

same_place : (a b : ℕ) → (a < b → ⊥) → (b < a → ⊥) → a ≡ b
same_place zero zero less more = refl
same_place zero (suc b) less more = absurd (less (omega arith))
same_place (suc a) zero less more = absurd (more (omega arith))
same_place (suc a) (suc b) less more = ap suc (same_place a b (λ h. less (omega (arith, h))) (λ h. more (omega (arith, h))))

apart : (b : Bool) → b ≡ true → b ≡ false → ⊥
apart b is not = cc

one_first : (tokens : List ℕ) (one other : ℕ) → IsFirstOf tokens one → IsFirstOf tokens other → one ≡ other
one_first tokens one other first also =
    same_place one other (λ less. apart (is_among tokens one) first.stands (also.first one less)) (λ more. apart (is_among tokens other) also.stands (first.first other more))

no_first : (tokens : List ℕ) (token : ℕ) → IsFirstOf tokens token → HasNone tokens → ⊥
no_first tokens token first none = apart (is_among tokens token) first.stands (none token)

one_name : (told : Option Unbound) (one other : Unbound) → told ≡ Some one → told ≡ Some other → one ≡ other
one_name told one other is also = cc

no_name : (f : Occurrence → Unbound) (found : Option Occurrence) (var : Unbound) → found ≡ None → option_map f found ≡ Some var → ⊥
no_name f found var none told =
    let nothing : option_map f None ≡ Some var = ap (option_map f) (sym none) ∙ told in
    cc

one_told : (tokens : List RuleToken) (found : List Occurrence) (faults : List ℕ) (one other : DraftFault)
    → IsTold one → IsTold other → IsFaultOf tokens found faults one → IsFaultOf tokens found faults other → one ≡ other
one_told tokens found faults (PatternForm one) (PatternForm other) told also first second = ap PatternForm (one_first faults one other first second)
one_told tokens found faults (PatternForm one) (NotBoundLeft var) told also first second = absurd (no_first faults one first second.0)
one_told tokens found faults (NotBoundLeft var) (PatternForm other) told also first second = absurd (no_first faults other second first.0)
one_told tokens found faults (NotBoundLeft var) (NotBoundLeft name) told also first second =
    ap NotBoundLeft (one_name (option_map (name_of tokens) (unbound_of found)) var name first.1 second.1)
one_told tokens found faults Memory other told also first second = absurd told
one_told tokens found faults one Memory told also first second = absurd also

module _ (k : ℕ) (g : Productions) (leaves : List Leaf) (cells : List CellShape) (tokens : List RuleToken) (rule : RuleReading) where
  one_by : (one other : Draft) → IsDraftBy k g leaves cells tokens rule one → IsDraftBy k g leaves cells tokens rule other → one ≡ other
  one_by one other first second = first.2 ∙ ap (draft_by k g leaves cells tokens rule) (first.1.are ∙ sym second.1.are) ∙ sym second.2

  not_both : (draft : Draft) (fault : DraftFault) → IsTold fault → IsDraftBy k g leaves cells tokens rule draft → IsDraftFaultBy k g leaves cells tokens rule fault → ⊥
  not_both draft (PatternForm token) told is first = no_first _ token first is.1.formed
  not_both draft (NotBoundLeft var) told is unbound = no_name (name_of tokens) _ var is.1.bound unbound.1
  not_both draft Memory told is fault = told

pub one_draft : HasOneDraft
one_draft k g cells tokens words rule one other first second = one_by k g (leaves_of tokens words) cells tokens rule one other first second

pub one_fault : HasOneFault
one_fault k g cells tokens words rule one other told also first second =
    one_told tokens (found_by k g (leaves_of tokens words) cells rule) (faults_by k g (leaves_of tokens words) cells rule) one other told also first second

pub draft_or_fault : HasDraftOrFault
draft_or_fault k g cells tokens words rule draft fault told is at = not_both k g (leaves_of tokens words) cells tokens rule draft fault told is at
