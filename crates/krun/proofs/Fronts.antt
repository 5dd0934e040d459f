-- The rules of a definition of the small form are rules at the front of the one cell.
use Rattle.std.proofs.Common.{◌≡◌, ℕ, zero, suc, ◌+◌, ◌<◌, List, [], ◌∷◌, ◌++◌, map, length, get_or, refl, sym, ap, ◌∙◌, subst, arith, true}
use Rattle.std.specs.Prelude.{Some, None, IsTrue, ◌==◌, cond, replicate}
use Rattle.std.specs.Option.{option_and_then}
use Rattle.std.specs.List.{AllByRecursion}
use Rattle.std.proofs.lemmas.List.{length-replicate}
use Rattle.std.proofs.lemmas.Bool.Decides.{nat_tests}
use mathlib.Core.Former.{Count}
use Rattle.k_terms.specs.Sorts.{SortOrder, same, sort_k}
use Rattle.rule_terms.specs.declared.pattern.Pattern.{Pattern, Var, Lit, Node', Items', Seq', Freezer', Apply', Row_of-Pattern, end_of-Pattern, more_of-Pattern}
use Rattle.rule_terms.specs.declared.pattern.Body.{Seq as SeqBody}
use Rattle.rule_terms.specs.declared.rule.Rule.{Rule}
use Rattle.rule_terms.proofs.Defined.{both, joins}
use Rattle.small_form.specs.declared.small.Production.{Production}
use Rattle.small_form.specs.declared.small.SmallRule.{SmallRule}
use Rattle.small_form.specs.declared.small.Small.{Small}
use Rattle.small_form.specs.Small.{IsSmall, IsSmallRule, is_term, row_is_term, is_applied as applied, variables_of, row_variables, numbers_from, rule_of, first_sort, language_of, arity_of, has_arity, row_length}
use Rattle.front_run.specs.Front.{after_variables, row_after_variables, is_front_term, row_is_front_term, is_applied, IsFrontRule, AreFrontRules}

-- a term of declared productions is a term of variables and productions
mutual
  unfolding is_term is_front_term

  front_term : (productions : List Production) (variables : ℕ) (p : Pattern) → is_term productions variables p ≡ true → is_front_term variables p ≡ true
  front_term productions variables (Var x) term = term
  front_term productions variables (Node' p _ parts) term =
      front_row productions variables parts (both (has_arity (arity_of productions p) (row_length parts)) (row_is_term productions variables parts) term).1
  front_term productions variables (Lit _) term = cc
  front_term productions variables (Items' _ _ _ _) term = cc
  front_term productions variables (Seq' _ _ _) term = cc
  front_term productions variables (Freezer' _ _ _ _) term = cc
  front_term productions variables (Apply' _ _ _) term = cc

  front_row : {n : Count} (productions : List Production) (variables : ℕ) (ps : Row_of-Pattern n) → row_is_term productions variables ps ≡ true → row_is_front_term variables ps ≡ true
  front_row productions variables end_of-Pattern terms = refl
  front_row productions variables (more_of-Pattern p ps) terms =
      joins (is_front_term variables p) (row_is_front_term variables ps)
      (front_term productions variables p (both (is_term productions variables p) (row_is_term productions variables ps) terms).0)
      (front_row productions variables ps (both (is_term productions variables p) (row_is_term productions variables ps) terms).1)

-- two lists that are together the numbers from one on are each such numbers
numbers_apart : (xs ys : List ℕ) (first n : ℕ) → xs ++ ys ≡ numbers_from first n
    → (a : ℕ) × (b : ℕ) × (a + b ≡ n) × (xs ≡ numbers_from first a) × (ys ≡ numbers_from (first + a) b)
numbers_apart [] ys first n e = (0, n, omega arith, refl, e ∙ ap (λ m. numbers_from m n) (omega arith))
numbers_apart (x ∷ xs) ys first zero e = cc
numbers_apart (x ∷ xs) ys first (suc n) e =
    let head : x ≡ first = cc in
    let rest : xs ++ ys ≡ numbers_from (suc first) n = cc in
    let parts = numbers_apart xs ys (suc first) n rest in
    (suc parts.0, parts.1, (let sum : suc parts.0 + parts.1 ≡ suc n = omega (arith, parts.2) in sum), (λ i. head i ∷ parts.3 i), parts.4 ∙ ap (λ m. numbers_from m parts.1) (omega arith))

one_number : (x first n : ℕ) → x ∷ [] ≡ numbers_from first n → (x ≡ first) × (n ≡ 1)
one_number x first zero e = cc
one_number x first (suc zero) e = (let same : x ≡ first = cc in same, refl)
one_number x first (suc (suc n)) e = cc

same_number : (x first : ℕ) → x ≡ first → cond (x == first) (Some (suc first)) None ≡ Some (suc first)
same_number x first is = let test : (x == first) ≡ true = search (arith, nat_tests) in ap (λ b. cond b (Some (suc first)) None) test

-- variables that are numbered in the order in which they stand end at the number after them
mutual
  unfolding variables_of after_variables is_front_term

  ends_at : (variables : ℕ) (p : Pattern) (first n : ℕ) → is_front_term variables p ≡ true → variables_of p ≡ numbers_from first n → after_variables first p ≡ Some (first + n)
  ends_at variables (Var x) first n term numbers =
      let number = one_number x first n numbers in
      same_number x first number.0 ∙ ap Some (let next : suc first ≡ first + n = omega (arith, number.1) in next)
  ends_at variables (Node' _ _ parts) first n term numbers = row_ends_at variables parts first n term numbers
  ends_at variables (Lit _) first n term numbers = cc
  ends_at variables (Items' _ _ _ _) first n term numbers = cc
  ends_at variables (Seq' _ _ _) first n term numbers = cc
  ends_at variables (Freezer' _ _ _ _) first n term numbers = cc
  ends_at variables (Apply' _ _ _) first n term numbers = cc

  row_ends_at : {m : Count} (variables : ℕ) (ps : Row_of-Pattern m) (first n : ℕ) → row_is_front_term variables ps ≡ true → row_variables ps ≡ numbers_from first n → row_after_variables first ps ≡ Some (first + n)
  row_ends_at variables end_of-Pattern first zero terms numbers = ap Some (omega arith)
  row_ends_at variables end_of-Pattern first (suc n) terms numbers = cc
  row_ends_at variables (more_of-Pattern p ps) first n terms numbers =
      let parts = numbers_apart (variables_of p) (row_variables ps) first n numbers in
      let here = ends_at variables p first parts.0 (both (is_front_term variables p) (row_is_front_term variables ps) terms).0 parts.3 in
      let rest = row_ends_at variables ps (first + parts.0) parts.1 (both (is_front_term variables p) (row_is_front_term variables ps) terms).1 parts.4 in
      ap (option_and_then (λ next. row_after_variables next ps)) here ∙ rest ∙ ap Some (let sum : first + parts.0 + parts.1 ≡ first + n = omega (arith, parts.2) in sum)

applied_is : (p : Pattern) → IsTrue (applied p) → IsTrue (is_applied p)
applied_is (Node' _ _ _) h = refl
applied_is (Var _) h = h
applied_is (Lit _) h = h
applied_is (Items' _ _ _ _) h = h
applied_is (Seq' _ _ _) h = h
applied_is (Freezer' _ _ _ _) h = h
applied_is (Apply' _ _ _) h = h

-- a rule of the small form
small_front : (o : SortOrder) (productions : List Production) (r : SmallRule) → IsSmallRule productions r → IsFrontRule o (rule_of r)
small_front o productions r small =
    let n = length r.names in
    let sorts = replicate n first_sort in
    let count : n ≡ length sorts = sym (length-replicate n first_sort) in
    let term = front_term productions n r.left small.left in
    record {
      left = r.left;
      right = r.right;
      variables = sorts;
      parts = record {
        left_front = record { cell = refl; mark = refl; body = ap (λ m. SeqBody (r.left ∷ []) (Some m)) count };
        right_front = record { cell = refl; mark = refl; body = ap (λ m. SeqBody (r.right ∷ []) (Some m)) count };
        rest_sort = sort_k;
        sorts = refl;
        rest = same sort_k;
        unconditional = refl;
      };
      applied = applied_is r.left small.applied_left;
      numbered = ends_at n r.left 0 n term small.once ∙ ap Some (let sum : 0 + n ≡ n = omega arith in sum ∙ count);
      known = subst (λ m. IsTrue (is_front_term m r.right)) count (front_term productions n r.right small.right);
    }

rules_front : (o : SortOrder) (productions : List Production) (rules : List SmallRule) (k : ℕ) (r : Rule) → k < length (map rule_of rules) → get_or (map rule_of rules) k r ≡ r
    → AllByRecursion (IsSmallRule productions) rules → IsFrontRule o r
rules_front o productions [] k r within is all = absurd (omega arith)
rules_front o productions (q ∷ rules) zero r within is all = subst (IsFrontRule o) is (small_front o productions q all.0)
rules_front o productions (q ∷ rules) (suc k) r within is all = rules_front o productions rules k r (omega arith) is all.1

-- all rules of a definition of the small form are rules at the front
pub small_fronts : (d : Small) → IsSmall d → AreFrontRules (language_of d)
small_fronts d small r contains = rules_front (language_of d).sorts d.productions d.rules contains.0 r contains.1 contains.2 small.rules
