-- What a sort leads to.
use Rattle.std.proofs.Common.{arith, inl, inr, ◌⊎◌, ◌≡◌, ◌≢◌, ℕ, ◌+◌, ◌<◌, ◌==◌, Bool, true, false, cond, List, [], ◌∷◌, ◌++◌, length, refl, sym, subst}
use Rattle.std.specs.List.{flat_map}
use Rattle.std.proofs.lemmas.Bool.{eqb-true, eq-eqb, cases_lt}
use Rattle.k_terms.specs.Sorts.{sort_k, sort_kitem}
use Rattle.import_order.specs.Imports.{Has as HasNumber}
use Rattle.import_order.proofs.Members.{has_left as number_left, has_last as number_last, has_push as number_push, has_same as number_same}
use Rattle.grammar_terms.specs.Cuts.{Has}
use Rattle.grammar_terms.specs.Grammar.{Syntax}
use Rattle.grammar_terms.specs.declared.production.Production.{Production}
use Rattle.sorted_grammar.specs.Leading.{LeadsBy, Leads, by_production, from_kitem, from_k}
use Rattle.sorted_grammar.specs.Marks.{targets_by, targets_from, IsBelowKItem, IsWithIf, IsWithBelow, AreTargets, IsNullableRow}
use Rattle.sorted_grammar.proofs.Stepping.{number_flat, of_number_flat, targets_lead}

-- ---- numbers with some more

pub with_one : (before after : List ℕ) (number : ℕ) (Holds : Type 0) → Holds → after ≡ before ++ number ∷ [] → IsWithIf before after number Holds
with_one before after number Holds holds is n = (
  λ has. elim (number_push before number n (subst (λ ns. HasNumber ns n) is has)) [ inl old ↦ inl old | inr same ↦ inr (same, holds) ],
  λ either. subst (λ ns. HasNumber ns n) (sym is) (elim either [
    | inl old ↦ number_left before (number ∷ []) n old
    | inr new ↦ number_same (before ++ number ∷ []) number n new.0 (number_last before number)
  ]),
)

pub with_none : (before : List ℕ) (number : ℕ) (Holds : Type 0) → (Holds → ⊥) → IsWithIf before before number Holds
with_none before number Holds fails n = (λ has. inl has, λ either. elim either [ inl old ↦ old | inr new ↦ absurd (fails new.1) ])

pub below_none : (g : Syntax) (before : List ℕ) → IsWithBelow g 0 before before
below_none g before n = (λ has. inl has, λ either. elim either [ inl old ↦ old | inr new ↦ let less = new.0 in absurd (omega (arith, less)) ])

pub below_more : (g : Syntax) (count : ℕ) (start before after : List ℕ) → IsWithBelow g count start before → IsWithIf before after count (IsBelowKItem g count) → IsWithBelow g (count + 1) start after
below_more g count start before after so one n = (
  λ has. elim ((one n).0 has) [
    | inl old ↦ elim ((so n).0 old) [ inl first ↦ inl first | inr less ↦ let l = less.0 in inr (omega (arith, l), less.1) ]
    | inr new ↦ let e = new.0 in inr (omega (arith, e), subst (IsBelowKItem g) new.0 new.1)
  ],
  λ either. elim either [
    | inl first ↦ (one n).1 (inl ((so n).1 (inl first)))
    | inr less ↦ elim (cases_lt n count) [
      | inl l ↦ (one n).1 (inl ((so n).1 (inr (l, less.1))))
      | inr m ↦ let top = less.0 in let e : count ≡ n = omega (arith, m, top) in (one n).1 (inr (e, subst (IsBelowKItem g) (sym e) less.1))
    ]
  ],
)

-- ---- the cases of a step

pub record ByProduction (g : Syntax) (sort to : ℕ) : Type 0 where
  pub production : Production
  pub has : Has g.prods production
  pub is : production.sort ≡ sort
  pub leads : LeadsBy g production to

abbrev pub CasesOf : Syntax → ℕ → ℕ → Type 0
CasesOf g sort to = ByProduction g sort to ⊎ (((sort ≡ sort_kitem) × (to < length g.names) × IsBelowKItem g to) ⊎ ((sort ≡ sort_k) × (to ≡ sort_kitem)))

pub cases_of : (g : Syntax) (sort to : ℕ) → Leads g sort to → CasesOf g sort to
cases_of g _ _ (by_production production to has leads) = inl (record { production = production; has = has; is = refl; leads = leads })
cases_of g _ _ (from_kitem to within other below none) = inr (inl (refl, within, record { other = other; below = below; no_list = none }))
cases_of g _ _ from_k = inr (inr (refl, refl))

module _ (g : Syntax) (row : List Bool) (nullable : IsNullableRow g row) (sort : ℕ) where
  abbrev targets : List ℕ
  targets = flat_map (targets_from row sort) g.prods

  from_target : (production : Production) (to : ℕ) → HasNumber (targets_from row sort production) to → (production.sort ≡ sort) × LeadsBy g production to
  from_target production to has =
      elim (production.sort == sort) as (λ b. production.sort == sort ≡ b → HasNumber (cond b (targets_by row production) []) to → (production.sort ≡ sort) × LeadsBy g production to) [
        | true ↦ λ e here. (eqb-true _ _ e, (targets_lead g row nullable production to).0 here)
        | false ↦ λ e none. absurd none
      ] refl has

  target_by : (to : ℕ) → HasNumber targets to → ByProduction g sort to
  target_by to has =
      let found = of_number_flat (targets_from row sort) g.prods to has in
      let is = from_target found.0 to found.2 in
      record { production = found.0; has = found.1; is = is.0; leads = is.1 }

  by_target : (to : ℕ) → ByProduction g sort to → HasNumber targets to
  by_target to by =
      number_flat (targets_from row sort) g.prods by.production to by.has
      (subst (λ b. HasNumber (cond b (targets_by row by.production) []) to) (sym (eq-eqb by.production.sort sort by.is)) ((targets_lead g row nullable by.production to).1 by.leads))

  lead_by : (to : ℕ) → ByProduction g sort to → Leads g sort to
  lead_by to by = subst (λ s. Leads g s to) by.is (by_production by.production to by.has by.leads)

  pub at_kitem : (after : List ℕ) → sort ≡ sort_kitem → IsWithBelow g (length g.names) targets after → AreTargets g sort after
  at_kitem after is so to = (
    λ has. elim ((so to).0 has) [
      | inl old ↦ lead_by to (target_by to old)
      | inr new ↦ subst (λ s. Leads g s to) (sym is) (from_kitem to new.0 new.1.other new.1.below new.1.no_list)
    ],
    λ leads. elim (cases_of g sort to leads) [
      | inl by ↦ (so to).1 (inl (by_target to by))
      | inr other ↦ elim other [
        | inl kitem ↦ (so to).1 (inr (kitem.1, kitem.2))
        | inr k ↦ let e = k.0 in absurd (omega (arith, e, is))
      ]
    ],
  )

  pub at_k : (after : List ℕ) → sort ≡ sort_k → after ≡ targets ++ sort_kitem ∷ [] → AreTargets g sort after
  at_k after is so to = (
    λ has. elim (number_push targets sort_kitem to (subst (λ ns. HasNumber ns to) so has)) [
      | inl old ↦ lead_by to (target_by to old)
      | inr new ↦ subst (λ s. Leads g s to) (sym is) (subst (Leads g sort_k) new from_k)
    ],
    λ leads. subst (λ ns. HasNumber ns to) (sym so) (elim (cases_of g sort to leads) [
      | inl by ↦ number_left targets (sort_kitem ∷ []) to (by_target to by)
      | inr other ↦ elim other [
        | inl kitem ↦ let e = kitem.0 in absurd (omega (arith, e, is))
        | inr k ↦ number_same (targets ++ sort_kitem ∷ []) sort_kitem to (sym k.1) (number_last targets sort_kitem)
      ]
    ]),
  )

  pub at_other : (after : List ℕ) → sort ≢ sort_kitem → sort ≢ sort_k → after ≡ targets → AreTargets g sort after
  at_other after no_kitem no_k so to = (
    λ has. lead_by to (target_by to (subst (λ ns. HasNumber ns to) so has)),
    λ leads. subst (λ ns. HasNumber ns to) (sym so) (elim (cases_of g sort to leads) [
      | inl by ↦ by_target to by
      | inr other ↦ elim other [ inl kitem ↦ absurd (no_kitem kitem.0) | inr k ↦ absurd (no_k k.0) ]
    ]),
  )
