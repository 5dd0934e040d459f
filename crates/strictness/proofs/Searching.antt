-- The search for the least bad place.
use Rattle.std.proofs.Common.{◌≡◌, inl, inr, ℕ, ◌+◌, ◌-◌, ◌<◌, ◌≤◌, ◌==◌, true, false, cond, List, length, refl, sym, ap, subst, ◌∙◌, arith}
use Rattle.std.specs.Prelude.{Option, Some, None, slice_get, unwrap_or}
use Rattle.std.proofs.lemmas.Bool.{eqb-false, ne_eqb, cases_lt}
use Rattle.std.proofs.lemmas.Option.{slice_get_within}
use Rattle.grammar_terms.specs.declared.production.Production.{Production}
use Rattle.grammar_terms.specs.Grammar.{production_at}
use Rattle.strictness.specs.declared.fault.StrictFault.{StrictFault}
use Rattle.strictness.specs.declared.fault.StrictFault.TheVariants.{BadStrict, Memory}
use Rattle.strictness.specs.Places.{is_bad, IsLeast, NonePasses, HaveNoBadPlace, IsLeastBad}
use Rattle.strictness.specs.Heating.{IsRefusal, IsBadAt}

-- the productions at the first places have no bad place
abbrev pub AreGood : List Production → ℕ → Type 0
AreGood prods limit = (i : ℕ) (production : Production) → i < limit → slice_get prods i ≡ Some production → NonePasses (is_bad production)

module _ (prods : List Production) where
  -- one more
  pub good_further : (i : ℕ) (next : Production) → slice_get prods i ≡ Some next → NonePasses (is_bad next) → AreGood prods i → AreGood prods (i + 1)
  good_further i next is good before other production below at = elim (cases_lt other i) [
    | inl less ↦ before other production less at
    | inr past ↦
        let here : other ≡ i = omega (arith, below, past) in
        let same : ◌≡◌ {A = Option Production} (Some next) (Some production) = sym is ∙ ap (slice_get prods) (sym here) ∙ at in
        subst (λ (q : Production). NonePasses (is_bad q)) (ap (λ o. unwrap_or o next) same) good
  ]

  -- a production has a place from 1 on
  pub placed : (p : ℕ) (production : Production) → production_at prods p ≡ Some production → (0 < p) × (slice_get prods (p - 1) ≡ Some production)
  placed p production at = elim (p == 0) as (λ b. (p == 0) ≡ b → cond b None (slice_get prods (p - 1)) ≡ Some production → (0 < p) × (slice_get prods (p - 1) ≡ Some production)) [
    | true ↦ λ zero none. absurd (cc)
    | false ↦ λ some is. (let differ = eqb-false p 0 some in omega (arith, differ), is)
  ] refl at

  pub place_of : (i : ℕ) (production : Production) → slice_get prods i ≡ Some production → production_at prods (i + 1) ≡ Some production
  place_of i production is =
      let differ : (i + 1 == 0) ≡ false = ne_eqb (i + 1) 0 (λ same. omega (arith, same)) in
      let before : i + 1 - 1 ≡ i = omega arith in
      ap (λ b. cond b None (slice_get prods (i + 1 - 1))) differ ∙ ap (slice_get prods) before ∙ is

  -- all of them
  pub all_good : (limit : ℕ) → length prods ≤ limit → AreGood prods limit → HaveNoBadPlace prods
  all_good limit all good p production at =
      let place = placed p production at in
      let within : p - 1 < length prods = slice_get_within prods (p - 1) production place.1 in
      good (p - 1) production (omega arith) place.1

  least : (i place : ℕ) (production : Production) → slice_get prods i ≡ Some production → IsLeast (is_bad production) place → AreGood prods i → IsLeastBad prods (i + 1) place
  least i place production is bad good = record {
    production = production;
    is = place_of i production is;
    bad = bad;
    least = λ q other less at. let found = placed q other at in good (q - 1) other (omega (arith, less, found.0)) found.1;
  }

  -- the fault that is told
  pub told : (i place : ℕ) (production : Production) (fault : StrictFault) → slice_get prods i ≡ Some production → IsLeast (is_bad production) place → AreGood prods i
      → IsBadAt (i + 1) place fault → IsRefusal prods fault
  told i place production (BadStrict p at) is bad good same =
      inr (subst (λ n. IsLeastBad prods n at) (sym same.0) (subst (IsLeastBad prods (i + 1)) (sym same.1) (least i place production is bad good)))
  told i place production Memory is bad good same = inl refl
