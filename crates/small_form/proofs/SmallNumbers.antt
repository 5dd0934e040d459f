-- The numbers in a definition of the small form are in range.
use Rattle.std.proofs.Common.{◌≡◌, ℕ, zero, suc, ◌<◌, true, not, ◌==◌, List, [], ◌∷◌, ◌++◌, length, refl, ap, ◌∙◌, arith}
use Rattle.std.proofs.lemmas.Bool.{le-leb, ne_eqb}
use Rattle.std.proofs.lemmas.Option.{slice_get_within}
use Rattle.std.proofs.lemmas.List.{length-replicate}
use Rattle.std.specs.Prelude.{Some, None, slice_get, replicate, nat_le}
use Rattle.std.specs.Option.{option_map}
use Rattle.std.specs.List.{list_all}
use mathlib.Core.Former.{Count}
use Rattle.k_terms.specs.Sorts.{SortOrder, sort_k}
use Rattle.rule_terms.specs.declared.pattern.Pattern.{Pattern, Var, Lit, Node', Items', Seq', Freezer', Apply', Row_of-Pattern, end_of-Pattern, more_of-Pattern}
use Rattle.rule_terms.specs.Spots.{spots_in}
use Rattle.rule_terms.specs.InRange.{is_production, is_pattern_in_range, row_in_range}
use Rattle.rule_terms.specs.Sound.{HasNumbersInRange}
use Rattle.rule_terms.proofs.Defined.{both, joins}
use Rattle.small_form.specs.declared.small.Production.{Production}
use Rattle.small_form.specs.declared.small.SmallRule.{SmallRule}
use Rattle.small_form.specs.Small.{IsSmallRule, is_term, row_is_term, arity_of, has_arity, row_length, first_sort, rule_of}

module _ (productions : List Production) where
  -- the order of the sorts
  abbrev pub order : SortOrder
  order = record { steps = []; productions = replicate (length productions) first_sort }

  produced : (p n : ℕ) → has_arity (arity_of productions p) n ≡ true → is_production order p ≡ true
  produced zero n e = cc
  produced (suc p) n e =
      elim (slice_get productions p) as (λ o. slice_get productions p ≡ o → has_arity (option_map (λ (q : Production). q.arity) o) n ≡ true → is_production order (suc p) ≡ true) [
        | None ↦ λ is f. cc
        | Some q ↦ λ is f.
            let within = slice_get_within productions p q is in
            let kept : nat_le (suc p) (length order.productions) ≡ true = ap (nat_le (suc p)) (length-replicate (length productions) first_sort) ∙ le-leb (suc p) (length productions) (omega arith) in
            joins (not (suc p == 0)) (nat_le (suc p) (length order.productions)) (ap not (ne_eqb (suc p) 0 (λ e. omega (arith, e)))) kept
      ] refl e

  mutual
    unfolding is_term is_pattern_in_range

    term_in_range : (count : ℕ) (p : Pattern) → is_term productions count p ≡ true → is_pattern_in_range order p ≡ true
    term_in_range count (Var x) term = refl
    term_in_range count (Node' p _ parts) term =
        let two = both (has_arity (arity_of productions p) (row_length parts)) (row_is_term productions count parts) term in
        joins (is_production order p) (row_in_range order parts) (produced p (row_length parts) two.0) (terms_in_range count parts two.1)
    term_in_range count (Lit _) term = cc
    term_in_range count (Items' _ _ _ _) term = cc
    term_in_range count (Seq' _ _ _) term = cc
    term_in_range count (Freezer' _ _ _ _) term = cc
    term_in_range count (Apply' _ _ _) term = cc

    terms_in_range : {n : Count} (count : ℕ) (ps : Row_of-Pattern n) → row_is_term productions count ps ≡ true → row_in_range order ps ≡ true
    terms_in_range count end_of-Pattern terms = refl
    terms_in_range count (more_of-Pattern p ps) terms =
        let two = both (is_term productions count p) (row_is_term productions count ps) terms in
        joins (is_pattern_in_range order p) (row_in_range order ps) (term_in_range count p two.0) (terms_in_range count ps two.1)

pub numbers_in_range : (productions : List Production) (r : SmallRule) → IsSmallRule productions r → HasNumbersInRange (order productions) (rule_of r)
unfolding spots_in
numbers_in_range productions r small = record {
  origin = refl;
  patterns = rw (term_in_range productions (length r.names) r.left small.left, term_in_range productions (length r.names) r.right small.right) refl;
  conditions = refl;
}
