-- Productions on cycles.
use Rattle.std.proofs.Common.{arith, inl, inr, ◌⊎◌, ◌≡◌, ◌↔◌, ℕ, zero, suc, ◌+◌, ◌-◌, ◌<◌, ◌==◌, ◌||◌, Bool, true, false, List, [], ◌∷◌, length, get_or, Option, Some, None, refl, sym, ap, subst, ◌∙◌}
use Rattle.std.specs.Prelude.{slice_get, unwrap_or}
use Rattle.std.specs.List.{list_any}
use Rattle.std.proofs.lemmas.Bool.{eqb-true, eq-eqb, cases_lt, false≢true, false_from_ne_true, cond-false}
use Rattle.std.proofs.lemmas.List.{get_or_past}
use Rattle.std.proofs.lemmas.Option.{slice_get_within}
use Rattle.production_reader.specs.declared.prod.Form.{Form}
use Rattle.production_reader.specs.declared.prod.Form.TheVariants.{Plain, Prefix, UserList}
use Rattle.import_order.specs.Imports.{Has as HasNumber, imports_of, AreWithin, Reaches, by_one, by_more}
use Rattle.grammar_terms.specs.Cuts.{Has}
use Rattle.grammar_terms.specs.Grammar.{Syntax, production_at, step_from}
use Rattle.grammar_terms.specs.declared.production.Part.TheVariants.{Sort}
use Rattle.grammar_terms.specs.declared.production.Production.{Production}
use Rattle.grammar_terms.proofs.Cutting.{has_right}
use Rattle.sorted_grammar.specs.Leading.{IsAmidst, LeadsBy, Leads, LeadsOn, here, further, IsCyclic, IsFirstCyclic}
use Rattle.sorted_grammar.specs.Sorting.{HasNoCyclicProduction}
use Rattle.sorted_grammar.specs.Marks.{marked, targets_by, AreInside, IsNullableRow, IsLeading, AreReached, returns, is_cyclic, NonePasses, IsFirstAt}
use Rattle.sorted_grammar.proofs.Members.{has_got}
use Rattle.sorted_grammar.proofs.Stepping.{targets_lead, LeadsIn}
use Rattle.sorted_grammar.proofs.Following.{cases_of}

any_number : (test : ℕ → Bool) (ns : List ℕ) → list_any test ns ≡ true → (n : ℕ) × HasNumber ns n × (test n ≡ true)
any_number test [] is = absurd (cc)
any_number test (m ∷ ns) is = elim (test m) as (λ b. test m ≡ b → (b || list_any test ns) ≡ true → (n : ℕ) × HasNumber (m ∷ ns) n × (test n ≡ true)) [
  | true ↦ λ e _. (m, inl refl, e)
  | false ↦ λ _ more. let found = any_number test ns more in (found.0, inr found.1, found.2)
] refl is

number_any : (test : ℕ → Bool) (ns : List ℕ) (n : ℕ) → HasNumber ns n → test n ≡ true → list_any test ns ≡ true
number_any test [] n has is = absurd has
number_any test (m ∷ ns) n (inl same) is = ap (λ b. b || list_any test ns) (ap test same ∙ is)
number_any test (m ∷ ns) n (inr has) is = elim (test m) as (λ b. (b || list_any test ns) ≡ true) [ true ↦ refl | false ↦ number_any test ns n has is ]

either_of : (a b : Bool) → (a || b) ≡ true → (a ≡ true) ⊎ (b ≡ true)
either_of true b e = inl refl
either_of false b e = inr e

-- ---- productions by their numbers

at_place : (prods : List Production) (place : ℕ) → production_at prods (place + 1) ≡ slice_get prods place
at_place prods place =
    let back : place + 1 - 1 ≡ place = omega arith in
    let some : (place + 1 == 0) ≡ false = false_from_ne_true (place + 1 == 0) (λ is. let none = eqb-true (place + 1) 0 is in omega (arith, none)) in
    cond-false (place + 1 == 0) None (slice_get prods (place + 1 - 1)) some ∙ ap (slice_get prods) back

record IsPlaced (prods : List Production) (p : ℕ) (production : Production) : Type 0 where
  pub place : ℕ
  pub number : p ≡ place + 1
  pub is : slice_get prods place ≡ Some production

placed_at : (prods : List Production) (p : ℕ) (production : Production) → production_at prods p ≡ Some production → IsPlaced prods p production
placed_at prods zero production is = absurd (cc)
placed_at prods (suc place) production is = record { place = place; number = omega arith; is = sym (at_place prods place) ∙ ap (production_at prods) (omega arith) ∙ is }

module _ (g : Syntax) (inside : AreInside g) where
  amidst_within : (production : Production) (to : ℕ) → Has g.prods production → IsAmidst g production.items to → to < length g.names
  amidst_within production to has is = inside.item production to has (subst (λ items. Has items (Sort to)) (sym is.is) (has_right is.front (Sort to ∷ is.back) (Sort to) (inl refl)))

  form_within : (form : Form) (production : Production) (to : ℕ) → Has g.prods production → LeadsIn g production to form → to < length g.names
  form_within Plain production to has is = amidst_within production to has is
  form_within (Prefix word) production to has is = amidst_within production to has is
  form_within (UserList separator) production to has is = elim is [
    | inl element ↦ inside.item production to has element
    | inr itself ↦ subst (λ n. n < length g.names) itself.0 (inside.sort production has)
  ]

  lead_within : (production : Production) (to : ℕ) → Has g.prods production → LeadsBy g production to → to < length g.names
  lead_within production to has leads = form_within production.form production to has leads

  -- both sorts of a step are sorts of the grammar
  both_within : (sort to : ℕ) → Leads g sort to → (sort < length g.names) × (to < length g.names)
  both_within sort to leads = let some = inside.some in elim (cases_of g sort to leads) [
    | inl by ↦ (subst (λ n. n < length g.names) by.is (inside.sort by.production by.has), lead_within by.production to by.has by.leads)
    | inr other ↦ elim other [
      | inl kitem ↦ let e = kitem.0 in (omega (arith, e, some), kitem.1)
      | inr k ↦ let e = k.0 in let f = k.1 in (omega (arith, e, some), omega (arith, f, some))
    ]
  ]

  module _ (graph : List (List ℕ)) (leading : IsLeading g graph) where
    -- a sort that leads on is one of the grammar
    from_within : (sort to : ℕ) → HasNumber (imports_of graph sort) to → sort < length g.names
    from_within sort to has = elim (cases_lt sort (length g.names)) [
      | inl within ↦ within
      | inr past ↦ absurd (subst (λ ns. HasNumber ns to) (get_or_past graph sort [] (let long = leading.long in omega (arith, long, past))) has)
    ]

    step_of : (sort to : ℕ) → HasNumber (imports_of graph sort) to → Leads g sort to
    step_of sort to has = (leading.each sort (from_within sort to has) to).0 has

    of_step : (sort to : ℕ) → Leads g sort to → HasNumber (imports_of graph sort) to
    of_step sort to leads = (leading.each sort (both_within sort to leads).0 to).1 leads

    pub are_within : AreWithin graph
    are_within sort to has = subst (λ n. to < n) (sym leading.long) (both_within sort to (step_of sort to has)).1

    on_reached : (sort to : ℕ) → Reaches graph sort to → LeadsOn g sort to
    on_reached _ _ (by_one sort to has) = further sort to to (step_of sort to has) (here to)
    on_reached _ _ (by_more sort by to has reaches) = further sort by to (step_of sort by has) (on_reached by to reaches)

    reached_on : (sort to : ℕ) → LeadsOn g sort to → (sort ≡ to) ⊎ Reaches graph sort to
    reached_on _ _ (here sort) = inl refl
    reached_on _ _ (further sort by to leads on) = elim (reached_on by to on) [
      | inl same ↦ inr (subst (Reaches graph sort) same (by_one sort by (of_step sort by leads)))
      | inr reaches ↦ inr (by_more sort by to (of_step sort by leads) reaches)
    ]

    module _ (rows : List (List Bool)) (reached : AreReached graph rows) where
      pub returns_on : (from to : ℕ) → from < length g.names → (returns rows from to ≡ true) ↔ LeadsOn g from to
      returns_on from to within =
          let inside_graph : from < length graph = let long = leading.long in omega (arith, long, within) in (
            λ is. elim (either_of (from == to) (marked (get_or rows from []) to) is) [
              | inl same ↦ subst (LeadsOn g from) (eqb-true _ _ same) (here from)
              | inr marks ↦ on_reached from to ((reached.each from to inside_graph).0 marks)
            ],
            λ on. elim (reached_on from to on) [
              | inl same ↦ ap (λ b. b || marked (get_or rows from []) to) (eq-eqb from to same)
              | inr reaches ↦ elim (from == to) as (λ b. (b || marked (get_or rows from []) to) ≡ true) [
                | true ↦ refl
                | false ↦ (reached.each from to inside_graph).1 reaches
              ]
            ],
          )

      module _ (row : List Bool) (nullable : IsNullableRow g row) where
        cyclic_of : (production : Production) → Has g.prods production → step_from production ≡ None → list_any (λ from. returns rows from production.sort) (targets_by row production) ≡ true → IsCyclic g production
        cyclic_of production has none is =
            let found = any_number (λ from. returns rows from production.sort) (targets_by row production) is in
            let leads = (targets_lead g row nullable production found.0).0 found.1 in
            record { no_step = none; to = found.0; leads = leads; back = (returns_on found.0 production.sort (lead_within production found.0 has leads)).0 found.2 }

        pub cyclic_is : (production : Production) → Has g.prods production → is_cyclic row rows production ≡ true → IsCyclic g production
        cyclic_is production has is = elim (step_from production) as (λ o. step_from production ≡ o
            → (elim o [ None ↦ list_any (λ from. returns rows from production.sort) (targets_by row production) | Some low ↦ false ]) ≡ true → IsCyclic g production) [
              | None ↦ λ none any. cyclic_of production has none any
              | Some low ↦ λ _ never. absurd (false≢true never)
            ] refl is

        pub is_of_cyclic : (production : Production) → Has g.prods production → IsCyclic g production → is_cyclic row rows production ≡ true
        is_of_cyclic production has cyclic =
            ap (λ o. elim o [ None ↦ list_any (λ from. returns rows from production.sort) (targets_by row production) | Some low ↦ false ]) cyclic.no_step
            ∙ number_any (λ from. returns rows from production.sort) (targets_by row production) cyclic.to ((targets_lead g row nullable production cyclic.to).1 cyclic.leads)
            ((returns_on cyclic.to production.sort (lead_within production cyclic.to has cyclic.leads)).1 cyclic.back)

        not_cyclic : (limit : ℕ) → NonePasses (is_cyclic row rows) g.prods limit → (p : ℕ) (production : Production) → p < limit + 1 → production_at g.prods p ≡ Some production → IsCyclic g production → ⊥
        not_cyclic limit none p production below is cyclic =
            let at = placed_at g.prods p production is in
            let number = at.number in
            false≢true (sym (none at.place production (omega (arith, number, below)) at.is) ∙ is_of_cyclic production (has_got g.prods at.place production at.is) cyclic)

        pub none_cyclic : NonePasses (is_cyclic row rows) g.prods (length g.prods) → HasNoCyclicProduction g
        none_cyclic none p production is =
            let at = placed_at g.prods p production is in
            let number = at.number in
            let within = slice_get_within g.prods at.place production at.is in
            not_cyclic (length g.prods) none p production (omega (arith, number, within)) is

        pub first_cyclic : (place : ℕ) → IsFirstAt (is_cyclic row rows) g.prods place → IsFirstCyclic g (place + 1)
        first_cyclic place first = record {
          production = first.production;
          is = at_place g.prods place ∙ first.is;
          cyclic = cyclic_is first.production (has_got g.prods place first.production first.is) first.passes;
          first = λ p production below is. not_cyclic place first.first p production below is;
        }

-- the next production does not pass either
pub none_further : (test : Production → Bool) (prods : List Production) (place : ℕ) (next : Production) → slice_get prods place ≡ Some next → test next ≡ false → NonePasses test prods place
    → NonePasses test prods (place + 1)
none_further test prods place next is fails before other production below at = elim (cases_lt other place) [
  | inl less ↦ before other production less at
  | inr past ↦
      let here : other ≡ place = omega (arith, below, past) in
      let same : ◌≡◌ {A = Option Production} (Some production) (Some next) = sym at ∙ ap (slice_get prods) here ∙ is in
      ap (λ o. test (unwrap_or o next)) same ∙ fails
]

-- ---- the forms that the code's goals have

module _ {lent row : List Bool} {lent_rows rows : List (List Bool)} {lent_prods prods : List Production} (first : lent ≡ row) (second : lent_rows ≡ rows) (third : lent_prods ≡ prods) where
  pub none_moved : NonePasses (is_cyclic lent lent_rows) lent_prods (length lent_prods) → NonePasses (is_cyclic row rows) prods (length prods)
  none_moved none =
      subst (λ ps. NonePasses (is_cyclic row rows) ps (length ps)) third
      (subst (λ rs. NonePasses (is_cyclic row rs) lent_prods (length lent_prods)) second (subst (λ r. NonePasses (is_cyclic r lent_rows) lent_prods (length lent_prods)) first none))

  pub first_moved : (place : ℕ) → IsFirstAt (is_cyclic lent lent_rows) lent_prods place → IsFirstAt (is_cyclic row rows) prods place
  first_moved place is =
      subst (λ ps. IsFirstAt (is_cyclic row rows) ps place) third
      (subst (λ rs. IsFirstAt (is_cyclic row rs) lent_prods place) second (subst (λ r. IsFirstAt (is_cyclic r lent_rows) lent_prods place) first is))
