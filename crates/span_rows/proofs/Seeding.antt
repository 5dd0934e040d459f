-- Rows that productions make, one by one.
use Rattle.std.proofs.Common.{ℕ, ◌+◌, ◌-◌, ◌<◌, ◌≤◌, ◌≡◌, inl, inr, false, cond, List, length, get_or, Some, None, slice_get, sym, ap, ◌∙◌, subst, arith}
use Rattle.std.specs.Prelude.{◌==◌}
use Rattle.std.proofs.Math.Nat.{eq-or-lt_of_le}
use Rattle.std.proofs.lemmas.Bool.{cases_eq}
use Rattle.std.proofs.lemmas.Bool.Decides.{nat_tests}
use Rattle.std.proofs.lemmas.Option.{slice_get-get_or, slice_get_within}
use Rattle.grammar_terms.specs.declared.production.Production.{Production}
use Rattle.grammar_terms.specs.Grammar.{Syntax, production_at}
use Rattle.span_rows.specs.declared.row.Row.{Row}
use Rattle.span_rows.specs.Rows.{Adds, IsOfSome}
use Rattle.span_rows.proofs.Adding.{adds_none, adds_both, adds_as}

some_same : {X : Type 0} (x y : X) → Some x ≡ Some y → x ≡ y
some_same x y same = cc

-- what a production up to a number makes
abbrev pub UpTo : Syntax → (ℕ → Production → Row → Type 0) → ℕ → Row → Type 0
UpTo g S count made = (some : IsOfSome g S made) × (some.p ≤ count)

production_here : (prods : List Production) (i : ℕ) (production : Production) → i < length prods → production ≡ get_or prods i production → production_at prods (i + 1) ≡ Some production
production_here prods i production within is =
    let positive : ((i + 1) == 0) ≡ false = grind (arith, nat_tests) in
    let back : i + 1 - 1 ≡ i = omega arith in
    ap (λ b. cond b None (slice_get prods (i + 1 - 1))) positive ∙ ap (slice_get prods) back ∙ slice_get-get_or prods i production within ∙ ap Some (sym is)

production_at_none : (prods : List Production) (production : Production) → production_at prods 0 ≡ Some production → ⊥
production_at_none prods production is = cc

production_within : (prods : List Production) (p : ℕ) (production : Production) → production_at prods p ≡ Some production → p ≤ length prods
production_within prods p production is = elim (cases_eq p 0) [
  | inl none ↦ omega arith
  | inr some ↦
      let positive : (p == 0) ≡ false = grind (arith, nat_tests) in
      let there : slice_get prods (p - 1) ≡ Some production = sym (ap (λ b. cond b None (slice_get prods (p - 1))) positive) ∙ is in
      omega (arith, slice_get_within prods (p - 1) production there)
]

module _ (g : Syntax) (S : ℕ → Production → Row → Type 0) where
  pub some_none : (rows : List Row) → Adds (UpTo g S 0) rows rows
  some_none rows = adds_none (UpTo g S 0) rows
      (λ x up. let zero_p : up.0.p ≡ 0 = omega (arith, up.1) in production_at_none g.prods up.0.production (subst (λ p. production_at g.prods p ≡ Some up.0.production) zero_p up.0.is_there))

  pub some_next : (i : ℕ) (production : Production) (one two three : List Row) → i < length g.prods → production ≡ get_or g.prods i production
      → Adds (UpTo g S i) one two → Adds (S (i + 1) production) two three → Adds (UpTo g S (i + 1)) one three
  some_next i production one two three within is before now =
      let here = production_here g.prods i production within is in
      adds_both (UpTo g S i) (S (i + 1) production) (UpTo g S (i + 1)) one two three
      (λ x up. (up.0, omega (arith, up.1)))
      (λ x made. (record { p = i + 1; production = production; is_there = here; makes = made }, omega arith))
      (λ x up. elim (eq-or-lt_of_le up.1) [
        | inl same ↦
            let same_production : up.0.production ≡ production = some_same up.0.production production (sym up.0.is_there ∙ ap (production_at g.prods) same ∙ here) in
            inr (subst (λ p. S p production x) same (subst (λ q. S up.0.p q x) same_production up.0.makes))
        | inr less ↦ inl (up.0, omega (arith, less))
      ])
      before now

  pub some_all : (i : ℕ) (before after : List Row) → length g.prods ≤ i → Adds (UpTo g S i) before after → Adds (IsOfSome g S) before after
  some_all i before after past added =
      adds_as (UpTo g S i) (IsOfSome g S) before after (λ x up. up.0) (λ x some. (some, let w = production_within g.prods some.p some.production some.is_there in omega arith)) added
