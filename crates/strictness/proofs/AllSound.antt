-- The rules of heating and cooling are sound over the one cell.
use Rattle.std.proofs.Common.{◌≡◌, ℕ, zero, suc, ◌+◌, ◌≤◌, Bool, true, false, not, cond, ◌==◌, ◌&&◌, ◌||◌, List, [], ◌∷◌, ◌++◌, length, refl, sym, ap, subst, ◌∙◌, append_assoc, arith}
use Rattle.std.proofs.lemmas.List.Elements.{All-contains, All-from_recursion}
use Rattle.std.specs.Prelude.{Some, Contains, slice_get}
use Rattle.std.specs.List.{AllByRecursion, filter, flat_map, range_with_len}
use Rattle.k_terms.specs.Sorts.{SortOrder, sort_k}
use Rattle.production_reader.specs.declared.prod.Attrs.{Attrs}
use Rattle.grammar_terms.specs.declared.production.Production.{Production}
use Rattle.grammar_terms.specs.Grammar.{Syntax, order_of}
use Rattle.rule_terms.specs.declared.pattern.CellPat.{CellPat}
use Rattle.rule_terms.specs.declared.rule.Draft.{Draft}
use Rattle.rule_terms.specs.declared.rule.Origin.TheVariants.{Heat, Cool}
use Rattle.rule_terms.specs.Language.{Language}
use Rattle.rule_terms.specs.Sound.{IsSoundRule}
use Rattle.strictness.specs.Places.{arguments, named_places, is_named, is_bad, is_bad_whole, is_vain, may_heat, NonePasses, declared_in, HaveNoBadPlace}
use Rattle.strictness.specs.Drafts.{sorts_of_variables, whole, pulled, when_heated, when_cooled, heating, cooling, drafts_at, drafts_of, drafts_from, strict_drafts}
use Rattle.strictness.specs.Laws.{rule_of, IsRoot}
use Rattle.strictness.proofs.Searching.{place_of}
use Rattle.strictness.specs.SoundDrafts.{IsSoundDraft}
use Rattle.rule_terms.specs.InRange.{is_production}
use Rattle.strictness.proofs.InRange.{whole_in_range, origin_in_range, pulled_in_range, heated_in_range, cooled_in_range, each_numbered}
use Rattle.strictness.proofs.OneCell.{AreInRange, cell_of, one_cell_sound, one_cell_draft}
use Rattle.strictness.proofs.DraftParts.{Begins, begins, plain_whole, plain_pulled, plain_heated, plain_cooled, bound_heated, bound_cooled}

first_or : {X : Type 0} → X → List X → X
first_or x [] = x
first_or x (y ∷ ys) = y

alone : {X : Type 0} (x y : X) → x ∷ [] ≡ y ∷ [] → x ≡ y
unfolding first_or
alone x y same = ap (first_or x) same

all_append : {X : Type 0} (P : X → Type 0) (xs ys : List X) → AllByRecursion P xs → AllByRecursion P ys → AllByRecursion P (xs ++ ys)
all_append P [] ys one other = other
all_append P (x ∷ xs) ys one other = (one.0, all_append P xs ys one.1 other)

neither : (a b : Bool) → (a || b) ≡ false → b ≡ false
neither true b e = cc
neither false b e = e

not_vain : (a b : Bool) → a ≡ true → (a && not b) ≡ false → b ≡ true
not_vain true true e f = refl
not_vain true false e f = cc
not_vain false b e f = cc

-- a place that is named and not bad may be heated
heats : (production : Production) (place : ℕ) → NonePasses (is_bad production) → is_named production place ≡ true → may_heat (arguments production) place ≡ true
heats production place good named =
    not_vain (is_named production place) (may_heat (arguments production) place) named
    (neither (place == 0 && is_bad_whole production.attrs (arguments production)) (is_vain (named_places production.attrs (length (arguments production))) (arguments production) place) (good place))

-- ---- what holds of the rules of each place holds of all

module _ (o : SortOrder) (k : ℕ) (P : Draft → Type 0)
    (heats_well : (p place : ℕ) (sorts : List ℕ) → is_production o p ≡ true → 1 ≤ place → place ≤ length sorts → may_heat sorts place ≡ true → (attrs : Attrs) → P (heating k p attrs sorts place))
    (cools_well : (p place : ℕ) (sorts : List ℕ) → is_production o p ≡ true → 1 ≤ place → place ≤ length sorts → may_heat sorts place ≡ true → P (cooling k p sorts place)) where
  module _ (production : Production) (good : NonePasses (is_bad production)) (p : ℕ) (numbered : is_production o p ≡ true) where
    place_good : (place : ℕ) → 1 ≤ place → place ≤ length (arguments production) → is_named production place ≡ true → AllByRecursion P (drafts_at k p production place)
    place_good place from to named =
        let may = heats production place good named in
        (heats_well p place (arguments production) numbered from to may production.attrs, (cools_well p place (arguments production) numbered from to may, tt))

    places_good : (a m : ℕ) → 1 ≤ a → a + m ≤ length (arguments production) + 1
        → AllByRecursion P (flat_map (drafts_at k p production) (filter (is_named production) (range_with_len a m)))
    places_good a zero from to = tt
    places_good a (suc m) from to =
        let later = places_good (a + 1) m (omega arith) (omega arith) in
        let rest = filter (is_named production) (range_with_len (a + 1) m) in
        elim (is_named production a) as (λ b. is_named production a ≡ b → AllByRecursion P (flat_map (drafts_at k p production) (cond b (a ∷ rest) rest))) [
          | true ↦ λ named. all_append P (drafts_at k p production a) (flat_map (drafts_at k p production) rest) (place_good a from (omega arith) named) later
          | false ↦ λ other. later
        ] refl

  productions_good : (p : ℕ) (prods : List Production) → ((i : ℕ) (production : Production) → slice_get prods i ≡ Some production → NonePasses (is_bad production))
      → ((i q : ℕ) (production : Production) → q ≡ p + i → slice_get prods i ≡ Some production → is_production o q ≡ true)
      → AllByRecursion P (drafts_from k p prods)
  productions_good p [] good numbered = tt
  productions_good p (production ∷ prods) good numbered =
      all_append P (drafts_of k p production) (drafts_from k (p + 1) prods)
      (places_good production (good 0 production refl) p (numbered 0 p production (omega arith) refl) 1 (length (arguments production)) (omega arith) (omega arith))
      (productions_good (p + 1) prods (λ i next is. good (suc i) next is) (λ i q next same is. numbered (suc i) q next (omega (arith, same)) is))

each_draft : (k : ℕ) (P : Draft → Type 0) (g : Syntax)
    → ((p place : ℕ) (sorts : List ℕ) → is_production (order_of g) p ≡ true → 1 ≤ place → place ≤ length sorts → may_heat sorts place ≡ true → (attrs : Attrs) → P (heating k p attrs sorts place))
    → ((p place : ℕ) (sorts : List ℕ) → is_production (order_of g) p ≡ true → 1 ≤ place → place ≤ length sorts → may_heat sorts place ≡ true → P (cooling k p sorts place))
    → (draft : Draft) → HaveNoBadPlace (declared_in g) → Contains (strict_drafts g k) draft → P draft
each_draft k P g heats_well cools_well draft none has =
    let prods = declared_in g in
    let all = productions_good (order_of g) k P heats_well cools_well 1 prods (λ i production is. none (i + 1) production (place_of prods i production is)) (λ i q production same is. each_numbered g i q production (omega (arith, same)) is) in
    All-contains P (strict_drafts g k) draft (All-from_recursion P (strict_drafts g k) all) has

-- ---- the numbers

module _ (o : SortOrder) (p place : ℕ) (sorts : List ℕ) (numbered : is_production o p ≡ true) (from : 1 ≤ place) (to : place ≤ length sorts) where
  heating_in_range : (attrs : Attrs)
      → AreInRange o (Heat p place) (whole p (length sorts)) (pulled p (length sorts) place) (when_heated attrs place)
  heating_in_range attrs = record {
    of_origin = origin_in_range o sorts p numbered place from to;
    on_left = whole_in_range o sorts p numbered;
    on_right = pulled_in_range o sorts p numbered place from to;
    conditions = heated_in_range o sorts p numbered place from to attrs;
  }

  cooling_in_range : AreInRange o (Cool p place) (pulled p (length sorts) place) (whole p (length sorts)) (when_cooled place)
  cooling_in_range = record {
    of_origin = origin_in_range o sorts p numbered place from to;
    on_left = pulled_in_range o sorts p numbered place from to;
    on_right = whole_in_range o sorts p numbered;
    conditions = cooled_in_range o sorts p numbered place from to;
  }

-- ---- over the one cell

module _ (d : Language) (k : ℕ) (root : IsRoot d k) where
  -- the rule of a draft is sound
  abbrev IsGood : Draft → Type 0
  IsGood draft = (left right : CellPat) → draft.left ≡ left ∷ [] → draft.right ≡ right ∷ [] → IsSoundRule d (rule_of draft left right)

  -- it is enough that it is for the cells that the draft has
  made_good : (draft : Draft) (one other : CellPat) → draft.left ≡ one ∷ [] → draft.right ≡ other ∷ [] → IsSoundRule d (rule_of draft one other) → IsGood draft
  made_good draft one other on_left on_right sound left right l r =
      subst (λ c. IsSoundRule d (rule_of draft c right)) (alone one left (sym on_left ∙ l))
      (subst (λ c. IsSoundRule d (rule_of draft one c)) (alone other right (sym on_right ∙ r)) sound)

  module _ (p place : ℕ) (sorts : List ℕ) (numbered : is_production d.sorts p ≡ true) (from : 1 ≤ place) (to : place ≤ length sorts) (may : may_heat sorts place ≡ true) where
    abbrev vars : List ℕ
    vars = sorts_of_variables sorts

    heating_good : (attrs : Attrs) → IsGood (heating k p attrs sorts place)
    heating_good attrs =
        made_good (heating k p attrs sorts place) (cell_of k (length sorts) (whole p (length sorts))) (cell_of k (length sorts) (pulled p (length sorts) place)) refl refl
        (one_cell_sound d (Heat p place) k vars (length sorts) (whole p (length sorts)) (pulled p (length sorts) place) (when_heated attrs place) root
        (plain_whole sorts p vars) (plain_pulled sorts p place from to may vars (begins sorts p (sort_k ∷ []))) (plain_heated sorts p place from to may vars attrs)
        (bound_heated sorts p place from to may attrs) (heating_in_range d.sorts p place sorts numbered from to attrs))

    cooling_good : IsGood (cooling k p sorts place)
    cooling_good =
        made_good (cooling k p sorts place) (cell_of k (length sorts) (pulled p (length sorts) place)) (cell_of k (length sorts) (whole p (length sorts))) refl refl
        (one_cell_sound d (Cool p place) k vars (length sorts) (pulled p (length sorts) place) (whole p (length sorts)) (when_cooled place) root
        (plain_pulled sorts p place from to may vars (begins sorts p (sort_k ∷ []))) (plain_whole sorts p vars) (plain_cooled sorts p place from to may vars)
        (bound_cooled sorts p place from to may) (cooling_in_range d.sorts p place sorts numbered from to))

pub are_sound : (d : Language) (g : Syntax) (k : ℕ) (draft : Draft) (left right : CellPat) → IsRoot d k → d.sorts ≡ order_of g → HaveNoBadPlace (declared_in g)
    → Contains (strict_drafts g k) draft → draft.left ≡ left ∷ [] → draft.right ≡ right ∷ [] → IsSoundRule d (rule_of draft left right)
are_sound d g k draft left right root same none has =
    let of_grammar : (p : ℕ) (sorts : List ℕ) → is_production (order_of g) p ≡ true → is_production d.sorts p ≡ true = λ p sorts numbered. subst (λ o. is_production o p ≡ true) (sym same) numbered in
    each_draft k (IsGood d k root) g
    (λ p place sorts numbered. heating_good d k root p place sorts (of_grammar p sorts numbered))
    (λ p place sorts numbered. cooling_good d k root p place sorts (of_grammar p sorts numbered))
    draft none has left right

-- ---- whatever is added around the cell

module _ (o : SortOrder) (k p place : ℕ) (sorts : List ℕ) (numbered : is_production o p ≡ true) (from : 1 ≤ place) (to : place ≤ length sorts) (may : may_heat sorts place ≡ true) where
  -- further variables behind these
  longer : (more : List ℕ) → Begins sorts p (sorts_of_variables sorts ++ more)
  longer more x sort is = ap (λ vs. slice_get vs x) (append_assoc sorts (sort_k ∷ []) more) ∙ begins sorts p ((sort_k ∷ []) ++ more) x sort is

  heating_drafted : (attrs : Attrs) → IsSoundDraft o (heating k p attrs sorts place)
  heating_drafted attrs =
      one_cell_draft o (Heat p place) k (sorts_of_variables sorts) (length sorts) (whole p (length sorts)) (pulled p (length sorts) place) (when_heated attrs place)
      (λ more. plain_whole sorts p (sorts_of_variables sorts ++ more)) (λ more. plain_pulled sorts p place from to may (sorts_of_variables sorts ++ more) (longer more))
      (λ more. plain_heated sorts p place from to may (sorts_of_variables sorts ++ more) attrs) (bound_heated sorts p place from to may attrs)
      (heating_in_range o p place sorts numbered from to attrs)

  cooling_drafted : IsSoundDraft o (cooling k p sorts place)
  cooling_drafted =
      one_cell_draft o (Cool p place) k (sorts_of_variables sorts) (length sorts) (pulled p (length sorts) place) (whole p (length sorts)) (when_cooled place)
      (λ more. plain_pulled sorts p place from to may (sorts_of_variables sorts ++ more) (longer more)) (λ more. plain_whole sorts p (sorts_of_variables sorts ++ more))
      (λ more. plain_cooled sorts p place from to may (sorts_of_variables sorts ++ more)) (bound_cooled sorts p place from to may)
      (cooling_in_range o p place sorts numbered from to)

pub are_sound_drafts : (g : Syntax) (k : ℕ) (draft : Draft) → HaveNoBadPlace (declared_in g) → Contains (strict_drafts g k) draft → IsSoundDraft (order_of g) draft
are_sound_drafts g k = each_draft k (IsSoundDraft (order_of g)) g (heating_drafted (order_of g) k) (cooling_drafted (order_of g) k)
