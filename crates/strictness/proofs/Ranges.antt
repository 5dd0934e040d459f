-- Numbers one after another, and what is made of them one at a time.
use Rattle.std.proofs.Common.{◌≡◌, ℕ, zero, suc, ◌+◌, ◌<◌, ◌==◌, Bool, true, false, not, cond, List, [], ◌∷◌, ◌++◌, length, map, take, get_or, refl, sym, ap, ◌∙◌, append_assoc, arith}
use Rattle.std.specs.List.{filter, flat_map, range_with_len}
use Rattle.std.proofs.lemmas.Bool.{eq-eqb, ne_eqb}
use Rattle.std.proofs.lemmas.List.{map-append, append-nil, take_more, length-take-le}
use Rattle.std.proofs.lemmas.List.Elements.{filter-append}
use Rattle.std.proofs.lemmas.Grind.{flat_map-append}
use Rattle.grammar_terms.specs.declared.production.Production.{Production}
use Rattle.rule_terms.specs.declared.pattern.Pattern.{Pattern, Var}
use Rattle.rule_terms.specs.declared.rule.Draft.{Draft}
use Rattle.strictness.specs.Places.{arguments, places_to, named_places, is_among, is_named}
use Rattle.strictness.specs.Drafts.{others, drafts_at, drafts_of, drafts_from}

-- one number more
pub range_more : (a n j : ℕ) → a + n ≡ j → range_with_len a (n + 1) ≡ range_with_len a n ++ j ∷ []
range_more a zero j is = let same : a ≡ j = omega arith in ap (λ x. x ∷ []) same
range_more a (suc n) j is =
    let size : suc n + 1 ≡ suc (n + 1) = omega arith in
    ap (range_with_len a) size ∙ ap (λ xs. a ∷ xs) (range_more (a + 1) n j (omega arith))

-- one place more
pub with_place : (new old before : List ℕ) (i : ℕ) → new ≡ old ++ (i + 1) ∷ [] → old ≡ before ++ places_to i → new ≡ before ++ places_to (i + 1)
with_place new old before i pushed is =
    pushed ∙ ap (λ xs. xs ++ (i + 1) ∷ []) is ∙ append_assoc before (places_to i) ((i + 1) ∷ []) ∙ ap (λ xs. before ++ xs) (sym (range_more 1 i (i + 1) (omega arith)))

module _ {X : Type 0} where
  made_one : (f : ℕ → X) (test : ℕ → Bool) (x : ℕ) → map f (filter test (x ∷ [])) ≡ cond (test x) (f x ∷ []) []
  made_one f test x = elim (test x) as (λ b. map f (cond b (x ∷ []) []) ≡ cond b (f x ∷ []) []) [ true ↦ refl | false ↦ refl ]

  -- what is made of each number that passes a test
  pub made_of_some : (f : ℕ → X) (test : ℕ → Bool) (n : ℕ)
      → map f (filter test (range_with_len 0 (n + 1))) ≡ map f (filter test (range_with_len 0 n)) ++ cond (test n) (f n ∷ []) []
  made_of_some f test n =
      ap (λ xs. map f (filter test xs)) (range_more 0 n n (omega arith))
      ∙ ap (map f) (filter-append test (range_with_len 0 n) (n ∷ []))
      ∙ map-append f (filter test (range_with_len 0 n)) (filter test (n ∷ []))
      ∙ ap (λ ys. map f (filter test (range_with_len 0 n)) ++ ys) (made_one f test n)

  joined_one : (f : ℕ → List X) (test : ℕ → Bool) (x : ℕ) → flat_map f (filter test (x ∷ [])) ≡ cond (test x) (f x ++ []) []
  joined_one f test x = elim (test x) as (λ b. flat_map f (cond b (x ∷ []) []) ≡ cond b (f x ++ []) []) [ true ↦ refl | false ↦ refl ]

  -- several things made of each place that passes
  pub joined_of_some : (f : ℕ → List X) (test : ℕ → Bool) (n : ℕ)
      → flat_map f (filter test (places_to (n + 1))) ≡ flat_map f (filter test (places_to n)) ++ cond (test (n + 1)) (f (n + 1) ++ []) []
  joined_of_some f test n =
      ap (λ xs. flat_map f (filter test xs)) (range_more 1 n (n + 1) (omega arith))
      ∙ ap (flat_map f) (filter-append test (places_to n) ((n + 1) ∷ []))
      ∙ flat_map-append f (filter test (places_to n)) (filter test ((n + 1) ∷ []))
      ∙ ap (λ ys. flat_map f (filter test (places_to n)) ++ ys) (joined_one f test (n + 1))

-- ---- the arguments beside one

pub other_kept : (n place : ℕ) (new old : List Pattern) → (n + 1 ≡ place → ⊥) → new ≡ old ++ Var n ∷ [] → old ≡ others n place → new ≡ others (n + 1) place
other_kept n place new old differ pushed is =
    let passes : not (n + 1 == place) ≡ true = ap not (ne_eqb (n + 1) place differ) in
    pushed
    ∙ ap (λ xs. xs ++ Var n ∷ []) is
    ∙ sym (made_of_some Var (λ x. not (x + 1 == place)) n ∙ ap (λ b. others n place ++ cond b (Var n ∷ []) []) passes)

pub other_left : (n place : ℕ) (new old : List Pattern) → n + 1 ≡ place → new ≡ old → old ≡ others n place → new ≡ others (n + 1) place
other_left n place new old same kept is =
    let fails : not (n + 1 == place) ≡ false = ap not (eq-eqb (n + 1) place same) in
    kept
    ∙ is
    ∙ sym (made_of_some Var (λ x. not (x + 1 == place)) n ∙ ap (λ b. others n place ++ cond b (Var n ∷ []) []) fails ∙ append-nil (others n place))

-- ---- the rules of a production, and of several

abbrev pub rules_to : ℕ → ℕ → Production → ℕ → List Draft
rules_to cell p production n = flat_map (drafts_at cell p production) (filter (is_named production) (places_to n))

module _ (cell p : ℕ) (production : Production) (n : ℕ) (new old start : List Draft) (is : old ≡ start ++ rules_to cell p production n) where
  pub place_strict : is_named production (n + 1) ≡ true → new ≡ old ++ drafts_at cell p production (n + 1) → new ≡ start ++ rules_to cell p production (n + 1)
  place_strict named added =
      added
      ∙ ap (λ xs. xs ++ drafts_at cell p production (n + 1)) is
      ∙ append_assoc start (rules_to cell p production n) (drafts_at cell p production (n + 1))
      ∙ ap (λ xs. start ++ xs) (sym (joined_of_some (drafts_at cell p production) (is_named production) n
      ∙ ap (λ b. rules_to cell p production n ++ cond b (drafts_at cell p production (n + 1) ++ []) []) named))

  pub place_lazy : is_named production (n + 1) ≡ false → new ≡ old → new ≡ start ++ rules_to cell p production (n + 1)
  place_lazy not_named kept =
      kept
      ∙ is
      ∙ ap (λ xs. start ++ xs) (sym (joined_of_some (drafts_at cell p production) (is_named production) n
      ∙ ap (λ b. rules_to cell p production n ++ cond b (drafts_at cell p production (n + 1) ++ []) []) not_named
      ∙ append-nil (rules_to cell p production n)))

-- what is named among the places that were found
pub named_here : (production : Production) (named found lent : List ℕ) (place count : ℕ) (result : Bool) → result ≡ is_among lent place → lent ≡ named
    → named ≡ named_places production.attrs count → count ≡ length found → found ≡ arguments production → result ≡ is_named production place
named_here production named found lent place count result is one two three four =
    is
    ∙ ap (λ ps. is_among ps place) (one ∙ two)
    ∙ ap (λ k. is_among (named_places production.attrs k) place) (three ∙ ap length four)

pub drafts_more : (cell p : ℕ) (before : List Production) (production : Production)
    → drafts_from cell p (before ++ production ∷ []) ≡ drafts_from cell p before ++ drafts_of cell (p + length before) production
drafts_more cell p [] production =
    append-nil (drafts_of cell p production) ∙ (let same : p ≡ p + 0 = omega arith in ap (λ q. drafts_of cell q production) same)
drafts_more cell p (first ∷ before) production =
    let number : p + 1 + length before ≡ p + suc (length before) = omega arith in
    ap (λ ds. drafts_of cell p first ++ ds) (drafts_more cell (p + 1) before production ∙ ap (λ q. drafts_from cell (p + 1) before ++ drafts_of cell q production) number)
    ∙ sym (append_assoc (drafts_of cell p first) (drafts_from cell (p + 1) before) (drafts_of cell (p + suc (length before)) production))

-- one production more
pub production_added : (cell : ℕ) (prods : List Production) (i : ℕ) (production : Production) (number : ℕ) (new old : List Draft) → i < length prods
    → production ≡ get_or prods i production → number ≡ i + 1 → new ≡ old ++ drafts_of cell number production → old ≡ drafts_from cell 1 (take i prods)
    → new ≡ drafts_from cell 1 (take (i + 1) prods)
production_added cell prods i production number new old within is numbered added before =
    let size : length (take i prods) ≡ i = length-take-le i prods (omega arith) in
    let place : number ≡ 1 + length (take i prods) = omega arith in
    added
    ∙ ap (λ ds. ds ++ drafts_of cell number production) before
    ∙ ap (λ q. drafts_from cell 1 (take i prods) ++ drafts_of cell q production) place
    ∙ sym (drafts_more cell 1 (take i prods) production)
    ∙ ap (λ x. drafts_from cell 1 (take i prods ++ x ∷ [])) is
    ∙ ap (drafts_from cell 1) (sym (take_more prods i production within))
