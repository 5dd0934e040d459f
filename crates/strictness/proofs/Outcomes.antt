-- The laws of faults, and how a call ends.
use Rattle.std.proofs.Common.{◌≡◌, ◌⊎◌, inl, inr, ⊎_elim, ℕ, ◌<◌, Bool, false, List, sym, ap, subst, ◌∙◌, Result, Ok, Err, MatchResult, IfOk, IfErr}
use Rattle.std.specs.Prelude.{Option, Some, unwrap_or}
use Rattle.std.proofs.lemmas.Bool.{cases_order, true≢false}
use Rattle.grammar_terms.specs.declared.production.Production.{Production}
use Rattle.grammar_terms.specs.Grammar.{production_at}
use Rattle.rule_terms.specs.declared.rule.Draft.{Draft}
use Rattle.strictness.specs.declared.fault.StrictFault.{StrictFault}
use Rattle.strictness.specs.declared.fault.StrictFault.TheVariants.{BadStrict, Memory}
use Rattle.strictness.specs.Places.{is_bad, IsLeast, HaveNoBadPlace, IsLeastBad}
use Rattle.strictness.specs.Heating.{IsFault, IsRefusal}

module _ (prods : List Production) where
  -- a bad place is none of a good production
  bad_not_good : (production : Production) (place : ℕ) → IsLeast (is_bad production) place → is_bad production place ≡ false → ⊥
  bad_not_good production place bad good = true≢false (sym bad.passes ∙ good)

  pub not_both : (fault : StrictFault) → HaveNoBadPlace prods → IsFault prods fault → ⊥
  not_both (BadStrict p place) good f = bad_not_good f.production place f.bad (good p f.production f.is place)
  not_both Memory good f = f

  -- the lesser of two differing production numbers can't be bad
  later : (p q i j : ℕ) (f : IsLeastBad prods p i) (g : IsLeastBad prods q j) → p < q → ⊥
  later p q i j f g less = bad_not_good f.production i f.bad (g.least p f.production less f.is i)

  same_number : (p q i j : ℕ) → IsLeastBad prods p i → IsLeastBad prods q j → p ≡ q
  same_number p q i j f g = ⊎_elim (λ (same : p ≡ q). same) (λ (differ : (p < q) ⊎ (q < p)). absurd (⊎_elim
      (λ (less : p < q). later p q i j f g less) (λ (less : q < p). later q p j i g f less) differ)) (cases_order p q)

  -- the least place is one
  same_place : (test : ℕ → Bool) (i j : ℕ) → IsLeast test i → IsLeast test j → i ≡ j
  same_place test i j f g = ⊎_elim (λ (same : i ≡ j). same) (λ (differ : (i < j) ⊎ (j < i)). absurd (⊎_elim
      (λ (less : i < j). true≢false (sym f.passes ∙ g.least i less)) (λ (less : j < i). true≢false (sym g.passes ∙ f.least j less)) differ)) (cases_order i j)

  same_bad : (p q i j : ℕ) → IsLeastBad prods p i → IsLeastBad prods q j → i ≡ j
  same_bad p q i j f g =
      let found : ◌≡◌ {A = Option Production} (Some g.production) (Some f.production) = sym g.is ∙ ap (production_at prods) (sym (same_number p q i j f g)) ∙ f.is in
      let same : g.production ≡ f.production = ap (λ o. unwrap_or o f.production) found in
      same_place (is_bad f.production) i j f.bad (subst (λ x. IsLeast (is_bad x) j) same g.bad)

  pub one_fault : (one other : StrictFault) → IsFault prods one → IsFault prods other → one ≡ other
  one_fault (BadStrict p i) (BadStrict q j) f g = λ n. BadStrict (same_number p q i j f g n) (same_bad p q i j f g n)
  one_fault (BadStrict p i) Memory f g = absurd g
  one_fault Memory other f g = absurd f

  -- ---- how a call ends

  module _ (drafts : List Draft) (result : Result (List Draft) StrictFault)
      (is : MatchResult result (λ found. (found ≡ drafts) × HaveNoBadPlace prods) (IsRefusal prods)) where
    pub rules_ok : IfOk result (λ found. (found ≡ drafts) × HaveNoBadPlace prods)
    rules_ok = elim result as (λ r. MatchResult r (λ found. (found ≡ drafts) × HaveNoBadPlace prods) (IsRefusal prods) → IfOk r (λ found. (found ≡ drafts) × HaveNoBadPlace prods)) [
      | Ok found ↦ λ good. good
      | Err fault ↦ λ bad. tt
    ] is

    pub rules_fault : IfErr result (IsRefusal prods)
    rules_fault = elim result as (λ r. MatchResult r (λ found. (found ≡ drafts) × HaveNoBadPlace prods) (IsRefusal prods) → IfErr r (IsRefusal prods)) [
      | Ok found ↦ λ good. tt
      | Err fault ↦ λ bad. bad
    ] is

    pub rules_exact : HaveNoBadPlace prods → MatchResult result (λ found. found ≡ drafts) (λ fault. fault ≡ Memory)
    rules_exact none = elim result as (λ r. MatchResult r (λ found. (found ≡ drafts) × HaveNoBadPlace prods) (IsRefusal prods) → MatchResult r (λ found. found ≡ drafts) (λ fault. fault ≡ Memory)) [
      | Ok found ↦ λ good. good.0
      | Err fault ↦ λ bad. ⊎_elim (λ (e : fault ≡ Memory). e) (λ (f : IsFault prods fault). absurd (not_both fault none f)) bad
    ] is

    pub rules_exact_fault : (fault : StrictFault) → IsFault prods fault → MatchResult result (λ found. ⊥) (λ other. (other ≡ Memory) ⊎ (other ≡ fault))
    rules_exact_fault fault f = elim result as (λ r. MatchResult r (λ found. (found ≡ drafts) × HaveNoBadPlace prods) (IsRefusal prods) → MatchResult r (λ found. ⊥) (λ other. (other ≡ Memory) ⊎ (other ≡ fault))) [
      | Ok found ↦ λ good. not_both fault good.1 f
      | Err other ↦ λ bad. ⊎_elim (λ (e : other ≡ Memory). inl e) (λ (g : IsFault prods other). inr (one_fault other fault g f)) bad
    ] is
