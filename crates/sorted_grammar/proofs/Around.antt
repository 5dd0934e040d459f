-- Cycles of subsorts.
use Rattle.std.proofs.Common.{arith, inl, inr, ◌⊎◌, ◌≡◌, ◌≢◌, ◌↔◌, ℕ, ◌<◌, ◌==◌, Bool, true, false, cond, List, [], ◌∷◌, length, map, Contains, Some, None, refl, sym, ap, subst, ◌∙◌}
use Rattle.std.proofs.lemmas.Bool.{cases_eq, false≢true}
use Rattle.std.proofs.Math.Seq.{take-length}
use Rattle.std.proofs.lemmas.List.Elements.{All-contains, All-from_recursion}
use Rattle.k_terms.specs.Sorts.{SortOrder, Below, same, subsort, produced, built_in, item, through, item_sorts, sort_kitem}
use Rattle.file_reader.specs.declared.sentence.Sentence.{Sentence}
use Rattle.grammar_terms.specs.Cuts.{Has}
use Rattle.grammar_terms.specs.Grammar.{order_by, order_of}
use Rattle.grammar_terms.specs.declared.production.Production.{Production}
use Rattle.grammar_terms.proofs.Cutting.{of_map}
use Rattle.sorted_grammar.specs.Naming.{names_of, number_in, first_that, mentioned_in}
use Rattle.sorted_grammar.specs.Placing.{placed_of, production_of, grammar_of}
use Rattle.sorted_grammar.specs.Subsorts.{IsAround, IsOnCycle, IsFirst, IsFirstOnCycle}
use Rattle.sorted_grammar.specs.Sorting.{HasNoSubsortCycle}
use Rattle.sorted_grammar.specs.Marks.{marked, is_around}
use Rattle.sorted_grammar.proofs.Members.{has_contained}
use Rattle.sorted_grammar.proofs.Mentions.{number_within, names_long, IsNumbered, own_mentioned, step_mentioned}

-- ---- the first name of a property

pub first_is : (test : List ℕ → Bool) (P : List ℕ → Type 0) (names : List (List ℕ)) (name : List ℕ) → ((x : List ℕ) → (test x ≡ true) ↔ P x) → first_that test names ≡ Some name → IsFirst P names name
first_is test P [] name decides is = absurd (cc)
first_is test P (x ∷ names) name decides is = elim (test x) as (λ b. test x ≡ b → cond b (Some x) (first_that test names) ≡ Some name → IsFirst P (x ∷ names) name) [
  | true ↦ λ e here. inl ((decides x).0 e, cc)
  | false ↦ λ e more. inr (λ p. false≢true (sym e ∙ (decides x).1 p), first_is test P names name decides more)
] refl is

pub none_is : (test : List ℕ → Bool) (P : List ℕ → Type 0) (names : List (List ℕ)) → ((x : List ℕ) → (test x ≡ true) ↔ P x) → first_that test names ≡ None → (x : List ℕ) → Has names x → P x → ⊥
none_is test P [] decides is x has p = has
none_is test P (y ∷ names) decides is x has p = elim (test y) as (λ b. test y ≡ b → cond b (Some y) (first_that test names) ≡ None → ⊥) [
  | true ↦ λ e some. absurd (cc)
  | false ↦ λ e more. elim has [
    | inl here ↦ false≢true (sym e ∙ (decides y).1 (subst P (sym here) p))
    | inr later ↦ none_is test P names decides more x later p
  ]
] refl is

pub some_first : (P : List ℕ → Type 0) (names : List (List ℕ)) (name : List ℕ) → IsFirst P names name → P name
some_first P [] name first = absurd first
some_first P (x ∷ names) name (inl here) = subst P here.1 here.0
some_first P (x ∷ names) name (inr later) = some_first P names name later.1

pub one_first : (P : List ℕ → Type 0) (names : List (List ℕ)) (one other : List ℕ) → IsFirst P names one → IsFirst P names other → one ≡ other
one_first P [] one other f g = absurd f
one_first P (x ∷ names) one other (inl f) (inl g) = sym f.1 ∙ g.1
one_first P (x ∷ names) one other (inl f) (inr g) = absurd (g.0 f.0)
one_first P (x ∷ names) one other (inr f) (inl g) = absurd (f.0 g.0)
one_first P (x ∷ names) one other (inr f) (inr g) = one_first P names one other f.1 g.1

-- ---- a cycle has a sort that is mentioned

abbrev rank : ℕ → ℕ
rank sort = cond (sort == 0) 2 (cond (sort == 1) 1 0)

-- the built-in steps alone lead from one sort to another
abbrev IsPlain : ℕ → ℕ → Type 0
IsPlain low high = (low ≡ high) ⊎ (rank low < rank high)

plain_chain : (a b c : ℕ) → IsPlain a b → IsPlain b c → IsPlain a c
plain_chain a b c (inl p) q = subst (λ x. IsPlain x c) (sym p) q
plain_chain a b c (inr p) (inl q) = subst (IsPlain a) q (inr p)
plain_chain a b c (inr p) (inr q) = inr (omega (arith, p, q))

plain_items : (a : ℕ) → Contains item_sorts a → rank a < rank sort_kitem
plain_items a c = All-contains (λ sort. rank sort < rank sort_kitem) item_sorts a (All-from_recursion (λ sort. rank sort < rank sort_kitem) item_sorts (omega arith, (omega arith, (omega arith, (omega arith, (omega arith, tt)))))) c

module _ (sentences : List Sentence) where
  abbrev names : List (List ℕ)
  names = names_of sentences

  abbrev mentions : List (List ℕ)
  mentions = mentioned_in sentences

  abbrev prods : List Production
  prods = map (production_of names) (placed_of sentences)

  abbrev order : SortOrder
  order = order_by prods

  -- a sort that is mentioned stands between two
  record IsVia (low high : ℕ) : Type 0 where
    pub name : List ℕ
    pub has : Has mentions name
    pub above : Below order low (number_in names name)
    pub below : Below order (number_in names name) high

  via_low : (low high : ℕ) → IsNumbered names mentions low → Below order low high → IsVia low high
  via_low low high is b = record { name = is.name; has = is.has; above = subst (Below order low) is.is (same low); below = subst (λ x. Below order x high) is.is b }

  produced_mentioned : (sort : ℕ) → Contains order.productions sort → IsNumbered names mentions sort
  produced_mentioned sort c =
      let found = of_map (λ (production : Production). production.sort) prods sort (has_contained order.productions sort c) in
      let is = own_mentioned sentences found.0 found.1 in
      record { name = is.name; has = is.has; is = found.2 ∙ is.is }

  split : (low high : ℕ) → Below order low high → IsPlain low high ⊎ IsVia low high
  split _ _ (same a) = inl (inl refl)
  split _ _ (subsort a b c) = inr (via_low a b (step_mentioned sentences a b (has_contained order.steps (a, b) c)) (subsort a b c))
  split _ _ (produced a c) = inr (via_low a sort_kitem (produced_mentioned a c) (produced a c))
  split _ _ (built_in a c) = inl (inr (plain_items a c))
  split _ _ item = inl (inr (omega arith))
  split _ _ (through a b c p q) = elim (split a b p) [
    | inr via ↦ inr (record { name = via.name; has = via.has; above = via.above; below = through (number_in names via.name) b c via.below q })
    | inl plain ↦ elim (split b c q) [
      | inr via ↦ inr (record { name = via.name; has = via.has; above = through a b (number_in names via.name) p via.above; below = via.below })
      | inl more ↦ inl (plain_chain a b c plain more)
    ]
  ]

  abbrev count : ℕ
  count = length names

  module _ (none : (name : List ℕ) → Has mentions name → IsAround order count (number_in names name) → ⊥) where
    by_via : (low high : ℕ) → low < count → high < count → low ≢ high → IsVia low high → Below order high low → ⊥
    by_via low high low_within high_within differ via back =
        let at = number_in names via.name in
        elim (cases_eq at high) [
          | inl is ↦ none via.name via.has (inr (record {
            other = low;
            within = low_within;
            differ = λ e. differ (e ∙ is);
            above = subst (λ x. Below order x low) (sym is) back;
            below = via.above;
          }))
          | inr other ↦ none via.name via.has (inr (record {
            other = high;
            within = high_within;
            differ = λ e. other (sym e);
            above = via.below;
            below = through high low at back via.above;
          }))
        ]

    pub none_around : (sort : ℕ) → sort < count → IsAround order count sort → ⊥
    none_around sort within (inl step) = let is = step_mentioned sentences sort sort step in none is.name is.has (subst (IsAround order count) is.is (inl step))
    none_around sort within (inr between) = elim (split sort between.other between.above) [
      | inr via ↦ by_via sort between.other within between.within (λ e. between.differ (sym e)) via between.below
      | inl plain ↦ elim (split between.other sort between.below) [
        | inr via ↦ by_via between.other sort between.within within between.differ via between.above
        | inl more ↦ elim plain [
          | inl e ↦ between.differ (sym e)
          | inr less ↦ elim more [ inl e ↦ between.differ e | inr fewer ↦ omega (arith, less, fewer) ]
        ]
      ]
    ]

  pub order_is : order_of (grammar_of sentences) ≡ order
  order_is = ap order_by (take-length prods)

  -- ---- the forms that the code's goals have

  module _ (row : List Bool) (order_now : SortOrder) (count_now : ℕ) (order_as : order_now ≡ order_of (grammar_of sentences)) (count_as : count_now ≡ count) (each : (sort : ℕ) → sort < count_now → (marked row sort ≡ true) ↔ IsAround order_now count_now sort) where
    decides : (name : List ℕ) → (is_around names row name ≡ true) ↔ IsOnCycle (grammar_of sentences) (number_in names name)
    decides name =
        let at = number_in names name in
        let within : at < count = number_within names name (let long = names_long sentences in omega (arith, long)) in
        subst (λ n. (marked row at ≡ true) ↔ IsAround (order_of (grammar_of sentences)) n at) count_as
        (subst (λ o. (marked row at ≡ true) ↔ IsAround o count_now at) order_as (each at (subst (λ n. at < n) (sym count_as) within)))

    pub no_cycle : first_that (is_around names row) mentions ≡ None → HasNoSubsortCycle (grammar_of sentences)
    no_cycle none sort within on =
        none_around
        (λ name has around.
        none_is (is_around names row) (λ x. IsOnCycle (grammar_of sentences) (number_in names x)) mentions decides none name has (subst (λ o. IsAround o count (number_in names name)) (sym order_is) around))
        sort within (subst (λ o. IsAround o count sort) order_is on)

    pub first_cycle : (name : List ℕ) → first_that (is_around names row) mentions ≡ Some name → IsFirstOnCycle (grammar_of sentences) mentions name
    first_cycle name is = first_is (is_around names row) (λ x. IsOnCycle (grammar_of sentences) (number_in names x)) mentions name decides is
