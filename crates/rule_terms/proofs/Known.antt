-- A test that each variable in a rule is one of its variables.
use Rattle.std.proofs.Common.{◌≡◌, inl, inr, ℕ, ◌<◌, Bool, true, ◌&&◌, ◌||◌, List, [], ◌∷◌, sym, subst}
use Rattle.std.proofs.lemmas.Bool.{eqb-true, ltb-true}
use Rattle.std.specs.Prelude.{Option, Some, None, nat_lt}
use Rattle.std.specs.List.{list_all, list_any}
use mathlib.Core.Former.{Count}
use Rattle.rule_terms.specs.declared.pattern.Pattern.{Pattern, Var, Lit, Node', Items', Seq', Freezer', Apply', Row_of-Pattern, end_of-Pattern, more_of-Pattern}
use Rattle.rule_terms.specs.declared.pattern.Body.{Body, Cells', Seq, Map, List as Listed, One, Made}
use Rattle.rule_terms.specs.declared.rule.Cond.{Cond}
use Rattle.rule_terms.specs.declared.rule.Cond.TheVariants.{Holds, IsSort, NotSort}
use Rattle.rule_terms.specs.Patterns.{mentions, row_mentions, is_rest, cond_mentions, body_rest, parts_mention}
use Rattle.rule_terms.specs.Sound.{all_patterns, body_mentions}
use Rattle.rule_terms.proofs.Defined.{both, one_of}

abbrev pub is_known_rest : ℕ → Option ℕ → Bool
is_known_rest n None = true
is_known_rest n (Some x) = nat_lt x n

-- each variable in a pattern is one of the first n
unfoldable mutual
  pub has_known : ℕ → Pattern → Bool
  has_known n (Var x) = nat_lt x n
  has_known n (Lit _) = true
  has_known n (Node' _ _ parts) = row_has_known n parts
  has_known n (Items' _ _ parts rest) = row_has_known n parts && is_known_rest n rest
  has_known n (Seq' _ parts rest) = row_has_known n parts && is_known_rest n rest
  has_known n (Freezer' _ _ _ parts) = row_has_known n parts
  has_known n (Apply' _ _ parts) = row_has_known n parts

  pub row_has_known : {n : _} → ℕ → Row_of-Pattern n → Bool
  row_has_known n end_of-Pattern = true
  row_has_known n (more_of-Pattern part parts) = has_known n part && row_has_known n parts

abbrev pub body_has_known : ℕ → Body → Bool
body_has_known n body = all_patterns (has_known n) body && is_known_rest n (body_rest body)

abbrev pub cond_has_known : ℕ → Cond → Bool
cond_has_known n (Holds e) = has_known n e
cond_has_known n (IsSort x _) = nat_lt x n
cond_has_known n (NotSort x _) = nat_lt x n

-- what follows where one of these is asked for, and each passes a test
pub met : {X A : Type 0} (test asks : X → Bool) → ((y : X) → test y ≡ true → asks y ≡ true → A) → (ys : List X) → list_all test ys ≡ true → list_any asks ys ≡ true → A
met test asks h [] all some = cc
met test asks h (y ∷ ys) all some = elim (one_of (asks y) (list_any asks ys) some) [
  | inl here ↦ h y (both _ _ all).0 here
  | inr there ↦ met test asks h ys (both _ _ all).1 there
]

module _ (n x : ℕ) where
  rest_known : (rest : Option ℕ) → is_known_rest n rest ≡ true → is_rest x rest ≡ true → x < n
  rest_known None k m = cc
  rest_known (Some y) k m = subst (λ z. z < n) (sym (eqb-true x y m)) (ltb-true y n k)

  -- one of two is asked for, and both pass
  either : (a b c d : Bool) → (a ≡ true → c ≡ true → x < n) → (b ≡ true → d ≡ true → x < n) → (a && b) ≡ true → (c || d) ≡ true → x < n
  either a b c d first second k m = elim (one_of c d m) [ inl here ↦ first (both a b k).0 here | inr there ↦ second (both a b k).1 there ]

  mutual
    unfolding has_known row_has_known mentions row_mentions

    pattern_known : (p : Pattern) → has_known n p ≡ true → mentions x p ≡ true → x < n
    pattern_known (Var y) k m = subst (λ z. z < n) (sym (eqb-true x y m)) (ltb-true y n k)
    pattern_known (Lit v) k m = cc
    pattern_known (Node' p s parts) k m = row_known parts k m
    pattern_known (Items' p s parts rest) k m = either (row_has_known n parts) (is_known_rest n rest) (row_mentions x parts) (is_rest x rest) (row_known parts) (rest_known rest) k m
    pattern_known (Seq' s parts rest) k m = either (row_has_known n parts) (is_known_rest n rest) (row_mentions x parts) (is_rest x rest) (row_known parts) (rest_known rest) k m
    pattern_known (Freezer' p i s parts) k m = row_known parts k m
    pattern_known (Apply' op s parts) k m = row_known parts k m

    row_known : {s : Count} (parts : Row_of-Pattern s) → row_has_known n parts ≡ true → row_mentions x parts ≡ true → x < n
    row_known end_of-Pattern k m = cc
    row_known (more_of-Pattern part parts) k m = either (has_known n part) (row_has_known n parts) (mentions x part) (row_mentions x parts) (pattern_known part) (row_known parts) k m

  list_known : (ps : List Pattern) → list_all (has_known n) ps ≡ true → list_any (mentions x) ps ≡ true → x < n
  list_known = met (has_known n) (mentions x) pattern_known

  parts_known : (body : Body) → all_patterns (has_known n) body ≡ true → parts_mention x body ≡ true → x < n
  parts_known (Cells' s children rest) k m = cc
  parts_known (Seq parts rest) k m = list_known parts k m
  parts_known (Map es rest) k m =
      met (λ e. has_known n e.0 && has_known n e.1) (λ e. mentions x e.0 || mentions x e.1)
      (λ (e : Pattern × Pattern) l o. either (has_known n e.0) (has_known n e.1) (mentions x e.0) (mentions x e.1) (pattern_known e.0) (pattern_known e.1) l o) es k m
  parts_known (Listed before rest after) k m = either (list_all (has_known n) before) (list_all (has_known n) after) (list_any (mentions x) before) (list_any (mentions x) after) (list_known before) (list_known after) k m
  parts_known (One p) k m = pattern_known p k m
  parts_known (Made p) k m = pattern_known p k m

  pub body_known : (body : Body) → body_has_known n body ≡ true → body_mentions x body ≡ true → x < n
  body_known body k m = either (all_patterns (has_known n) body) (is_known_rest n (body_rest body)) (parts_mention x body) (is_rest x (body_rest body)) (parts_known body) (rest_known (body_rest body)) k m

  pub cond_known : (c : Cond) → cond_has_known n c ≡ true → cond_mentions x c ≡ true → x < n
  cond_known (Holds e) k m = pattern_known e k m
  cond_known (IsSort y sort) k m = subst (λ z. z < n) (sym (eqb-true x y m)) (ltb-true y n k)
  cond_known (NotSort y sort) k m = subst (λ z. z < n) (sym (eqb-true x y m)) (ltb-true y n k)
