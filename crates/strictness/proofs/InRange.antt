-- The numbers in the rules of heating and cooling are in range.
use Rattle.std.proofs.Common.{◌≡◌, ℕ, zero, suc, ◌+◌, ◌-◌, ◌≤◌, Bool, true, false, not, cond, ◌==◌, ◌&&◌, List, [], ◌∷◌, ◌++◌, length, map, refl, sym, ap, subst, ◌∙◌, arith}
use Rattle.std.proofs.lemmas.Bool.{eqb-true, ne_eqb, le-leb}
use Rattle.std.proofs.lemmas.List.{length-map}
use Rattle.std.proofs.lemmas.Option.{slice_get_within}
use Rattle.std.specs.Prelude.{Some, slice_get, nat_le}
use Rattle.std.specs.List.{list_all, filter, range_with_len}
use mathlib.Core.Former.{Count}
use Rattle.k_terms.specs.Sorts.{SortOrder, sort_k, sort_kresult}
use Rattle.production_reader.specs.declared.prod.Attrs.{Attrs}
use Rattle.grammar_terms.specs.declared.production.Production.{Production}
use Rattle.grammar_terms.specs.Grammar.{Syntax, order_of}
use Rattle.rule_terms.specs.declared.pattern.Pattern.{Pattern, Var, Node, Freezer, Row_of-Pattern, end_of-Pattern, more_of-Pattern, items-the_row-Pattern, items_hidden-the_row-Pattern-0}
use Rattle.rule_terms.specs.declared.pattern.Pattern.TheBlock.{hidden-the_row-Pattern-0}
use Rattle.rule_terms.specs.declared.rule.Cond.TheVariants.{IsSort}
use Rattle.rule_terms.specs.InRange.{is_production, is_hole, row_count, is_pattern_in_range, row_in_range}
use Rattle.rule_terms.specs.Sound.{condition_test}
use Rattle.rule_terms.proofs.Defined.{both, joins}
use Rattle.strictness.specs.Places.{arguments, declared_in}
use Rattle.strictness.specs.Drafts.{variables, others, sorts_of_variables, whole, pulled, when_heated, when_cooled}

-- ---- rows of patterns as lists

range_row : {n : Count} (o : SortOrder) (parts : Row_of-Pattern n) → row_in_range o parts ≡ list_all (is_pattern_in_range o) (items-the_row-Pattern n parts)
unfolding row_in_range
range_row o end_of-Pattern = refl
range_row o (more_of-Pattern part parts) = ap (λ b. is_pattern_in_range o part && b) (range_row o parts)

count_row : {n : Count} (parts : Row_of-Pattern n) → row_count parts ≡ length (items-the_row-Pattern n parts)
count_row end_of-Pattern = refl
count_row (more_of-Pattern part parts) = ap suc (count_row parts)

range_Node : (o : SortOrder) (p : ℕ) (ps : List Pattern) → is_pattern_in_range o (Node p ps) ≡ (is_production o p && list_all (is_pattern_in_range o) ps)
unfolding is_pattern_in_range
range_Node o p ps =
    ap (λ b. is_production o p && b) (range_row o (hidden-the_row-Pattern-0 ps) ∙ ap (list_all (is_pattern_in_range o)) (items_hidden-the_row-Pattern-0 ps))

range_Freezer : (o : SortOrder) (p place : ℕ) (ps : List Pattern)
    → is_pattern_in_range o (Freezer p place ps) ≡ (is_production o p && is_hole place (length ps) && list_all (is_pattern_in_range o) ps)
unfolding is_pattern_in_range
range_Freezer o p place ps =
    let count = count_row (hidden-the_row-Pattern-0 ps) ∙ ap length (items_hidden-the_row-Pattern-0 ps) in
    let parts = range_row o (hidden-the_row-Pattern-0 ps) ∙ ap (list_all (is_pattern_in_range o)) (items_hidden-the_row-Pattern-0 ps) in
    ap (λ m. is_production o p && is_hole place m && row_in_range o (hidden-the_row-Pattern-0 ps)) count
    ∙ ap (λ b. is_production o p && is_hole place (length ps) && b) parts

variables_in_range : (o : SortOrder) (xs : List ℕ) → list_all (is_pattern_in_range o) (map Var xs) ≡ true
unfolding is_pattern_in_range
variables_in_range o [] = refl
variables_in_range o (x ∷ xs) = variables_in_range o xs

-- ---- all but the one of a place are at least all but one

abbrev is_other : ℕ → ℕ → Bool
is_other place x = not (x + 1 == place)

all_kept : (place a m : ℕ) → place ≤ a → m ≤ length (filter (is_other place) (range_with_len a m))
all_kept place a zero past = omega arith
all_kept place a (suc m) past =
    let rest = filter (is_other place) (range_with_len (a + 1) m) in
    let later = all_kept place (a + 1) m (omega arith) in
    let other : is_other place a ≡ true = ap not (ne_eqb (a + 1) place (λ e. omega (arith, e))) in
    subst (λ b. suc m ≤ length (cond b (a ∷ rest) rest)) (sym other) (omega arith)

one_lost : (place a m : ℕ) → m ≤ length (filter (is_other place) (range_with_len a m)) + 1
one_lost place a zero = omega arith
one_lost place a (suc m) =
    let rest = filter (is_other place) (range_with_len (a + 1) m) in
    elim (a + 1 == place) as (λ b. (a + 1 == place) ≡ b → suc m ≤ length (cond (not b) (a ∷ rest) rest) + 1) [
      | true ↦ λ here. (let same = eqb-true (a + 1) place here in let later = all_kept place (a + 1) m (omega arith) in omega arith)
      | false ↦ λ there. (let later = one_lost place (a + 1) m in omega arith)
    ] refl

-- ---- the two kinds of sides, and the conditions

module _ (o : SortOrder) (sorts : List ℕ) (p : ℕ) (numbered : is_production o p ≡ true) where
  abbrev n : ℕ
  n = length sorts

  pub whole_in_range : list_all (is_pattern_in_range o) (whole p n) ≡ true
  whole_in_range =
      ap (λ b. b && true) (range_Node o p (variables n) ∙ joins (is_production o p) (list_all (is_pattern_in_range o) (variables n)) numbered (variables_in_range o (range_with_len 0 n)))

  module _ (place : ℕ) (from : 1 ≤ place) (to : place ≤ n) where
    no_zero : not (place == 0) ≡ true
    no_zero = ap not (ne_eqb place 0 (λ e. omega (arith, e)))

    pub origin_in_range : (is_production o p && not (place == 0)) ≡ true
    origin_in_range = joins (is_production o p) (not (place == 0)) numbered no_zero

    hole : is_hole place (length (others n place)) ≡ true
    hole =
        let kept = one_lost place 0 n in
        let count = length-map (filter (is_other place) (range_with_len 0 n)) Var in
        joins (not (place == 0)) (nat_le place (length (others n place) + 1)) no_zero (le-leb place (length (others n place) + 1) (omega (arith, kept, count)))

    pub pulled_in_range : list_all (is_pattern_in_range o) (pulled p n place) ≡ true
    unfolding is_pattern_in_range
    pulled_in_range =
        let rest = variables_in_range o (filter (is_other place) (range_with_len 0 n)) in
        let both_in = joins (is_production o p) (is_hole place (length (others n place))) numbered hole in
        ap (λ b. b && true) (range_Freezer o p place (others n place) ∙ joins (is_production o p && is_hole place (length (others n place))) (list_all (is_pattern_in_range o) (others n place)) both_in rest)

    results_asked : (xs : List ℕ) → list_all (condition_test (is_pattern_in_range o)) (map (λ x. IsSort x sort_kresult) xs) ≡ true
    results_asked [] = refl
    results_asked (x ∷ xs) = results_asked xs

    pub heated_in_range : (attrs : Attrs) → list_all (condition_test (is_pattern_in_range o)) (when_heated attrs place) ≡ true
    heated_in_range attrs = elim attrs.seqstrict as (λ b. list_all (condition_test (is_pattern_in_range o)) (cond b (map (λ x. IsSort x sort_kresult) (range_with_len 0 (place - 1))) []) ≡ true) [
      | true ↦ results_asked (range_with_len 0 (place - 1))
      | false ↦ refl
    ]

    pub cooled_in_range : list_all (condition_test (is_pattern_in_range o)) (when_cooled place) ≡ true
    cooled_in_range = refl

-- the declared productions of a grammar are those of its order of sorts
pub each_numbered : (g : Syntax) (i q : ℕ) (production : Production) → q ≡ i + 1 → slice_get (declared_in g) i ≡ Some production
    → is_production (order_of g) q ≡ true
each_numbered g i q production same is =
    let within = slice_get_within (declared_in g) i production is in
    let count = length-map (declared_in g) (λ (one : Production). one.sort) in
    joins (not (q == 0)) (nat_le q (length (order_of g).productions)) (ap not (ne_eqb q 0 (λ e. omega (arith, e, same)))) (le-leb q (length (order_of g).productions) (omega (arith, within, count, same)))
