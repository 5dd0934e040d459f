-- What a rewriting at the front tells of the terms of its rule, and that no other body is that of a rule.
use Rattle.std.proofs.Common.{◌≡◌, ℕ, zero, suc, ◌≤◌, ◌<◌, get_or, List, [], ◌∷◌, ◌++◌, length, refl, sym, ap, ◌∙◌, subst, arith, Bool}
use Rattle.std.specs.Prelude.{Some, None, cond, IsTrue}
use Rattle.std.specs.Option.{option_map}
use Rattle.std.specs.Borrow.{Bor}
use Rattle.std.proofs.lemmas.List.{length-map}
use mathlib.Core.Logic.{⊎_elim}
use Rattle.std.proofs.lemmas.Bool.Decides.{leb_tells}
use Rattle.k_terms.specs.declared.value.Value.{Value, Node}
use Rattle.k_terms.specs.declared.value.Content.{Content}
use Rattle.k_terms.specs.declared.value.Content.TheVariants.{Seq as SeqContent}
use Rattle.k_terms.specs.Value.{depth_of}
use Rattle.k_terms.specs.Sorts.{SortOrder, Below, least_sort}
use Rattle.k_terms.specs.Operators.{bounded, depth_limit}
use Rattle.rule_terms.specs.declared.pattern.Pattern.{Pattern, Var, Lit, Node', Items', Seq', Freezer', Apply'}
use Rattle.rule_terms.specs.declared.pattern.Body.{Seq as SeqBody}
use Rattle.rule_terms.specs.declared.rule.Rule.{Rule}
use Rattle.rule_terms.specs.Options.{joined}
use Rattle.rule_terms.specs.Substitution.{Whole, Subst, rest_of, as_sequence, AreOfSorts}
use Rattle.rule_terms.specs.Eval.{eval, eval_row, eval_all}
use Rattle.rule_terms.specs.Fill.{content_of}
use Rattle.front_run.specs.Bindings.{wholes, StartsBy, IsFound, Finds, IsUndefined}
use Rattle.front_run.specs.Front.{HasParts, IsFrontRule, Rewrites, after_variables, is_front_term, is_applied}
use Rattle.rule_terms.proofs.Defined.{and_then_gives, map_gives}
use Rattle.front_run.proofs.Finding.{eval_all_more}

-- ---- a rule has one form

members_of : Content → List Value
members_of content = elim content [ SeqContent values ↦ values | _ ↦ [] ]

same_members : (xs ys : List Value) → SeqContent xs ≡ SeqContent ys → xs ≡ ys
unfolding members_of
same_members xs ys e = ap members_of e

same_bodies : (p q : Pattern) (x y : ℕ) → SeqBody (p ∷ []) (Some x) ≡ SeqBody (q ∷ []) (Some y) → p ≡ q
same_bodies p q x y e = cc

same_front : (xs ys : List ℕ) (x y : ℕ) → xs ++ x ∷ [] ≡ ys ++ y ∷ [] → xs ≡ ys
same_front [] [] x y e = refl
same_front [] (b ∷ []) x y e = cc
same_front [] (b ∷ c ∷ ys) x y e = cc
same_front (a ∷ []) [] x y e = cc
same_front (a ∷ c ∷ xs) [] x y e = cc
same_front (a ∷ xs) (b ∷ ys) x y e =
    let first : a ≡ b = cc in
    let rest : xs ++ x ∷ [] ≡ ys ++ y ∷ [] = cc in
    (λ i. first i ∷ same_front xs ys x y rest i)

-- what is said of the terms of a rule holds for those that the code found
pub record IsFrontForm (left right : Pattern) (variables : List ℕ) : Type 0 where
  pub applied : IsTrue (is_applied left)
  pub numbered : after_variables 0 left ≡ Some (length variables)
  pub known : IsTrue (is_front_term (length variables) right)

pub front_form : (o : SortOrder) (r : Rule) (left right : Pattern) (variables : List ℕ) → HasParts o r left right variables → IsFrontRule o r → IsFrontForm left right variables
front_form o r left right variables parts front =
    let same_left : front.left ≡ left = same_bodies front.left left _ _ (sym front.parts.left_front.body ∙ parts.left_front.body) in
    let same_right : front.right ≡ right = same_bodies front.right right _ _ (sym front.parts.right_front.body ∙ parts.right_front.body) in
    let same_variables : front.variables ≡ variables = same_front front.variables variables _ _ (sym front.parts.sorts ∙ parts.sorts) in
    record {
      applied = subst (λ p. IsTrue (is_applied p)) same_left front.applied;
      numbered = ap (after_variables 0) (sym same_left) ∙ front.numbered ∙ ap (λ vs. Some (length vs)) same_variables;
      known = subst (λ vs. IsTrue (is_front_term (length vs) right)) same_variables (subst (λ p. IsTrue (is_front_term (length front.variables) p)) same_right front.known);
    }

-- ---- what a rewriting tells

front_content : (p : Pattern) (x : ℕ) (s : Subst) (values : List Value) → content_of (SeqBody (p ∷ []) (Some x)) s ≡ Some (SeqContent values)
    → (first : Value) × (others : List Value) × (eval p s ≡ Some first) × (values ≡ first ∷ others)
front_content p x s values e =
    let rest = rest_of as_sequence (Some x) s in
    let whole = map_gives SeqContent (joined (eval_all (p ∷ []) s) rest) (SeqContent values) e in
    let both = and_then_gives (λ xs. option_map (λ ys. xs ++ ys) rest) (eval_all (p ∷ []) s) whole.0 whole.1 in
    let further = map_gives (λ ys. both.0 ++ ys) rest whole.0 both.2 in
    let parts = eval_all_more p [] s both.0 both.1 in
    (parts.0, parts.1 ++ further.0, parts.2, sym (same_members whole.0 values whole.2) ∙ sym further.2 ∙ ap (λ xs. xs ++ further.0) parts.4)

pub record Instance (o : SortOrder) (s : Subst) (values : List Value) (left right : Pattern) (variables : List ℕ) : Type 0 where
  pub first : Value
  pub others : List Value
  pub made : Value
  pub rest_sort : ℕ
  pub values_are : values ≡ first ∷ others
  pub left_is : eval left s ≡ Some first
  pub right_is : eval right s ≡ Some made
  pub of_sorts : AreOfSorts o (variables ++ rest_sort ∷ []) s

pub instance_of : (o : SortOrder) (r : Rule) (s : Subst) (values new : List Value) (left right : Pattern) (variables : List ℕ)
    → HasParts o r left right variables → Rewrites o r s values new → Instance o s values left right variables
instance_of o r s values new left right variables parts rewrites =
    let before = front_content left (length variables) s values (ap (λ b. content_of b s) (sym parts.left_front.body) ∙ rewrites.left) in
    let after = front_content right (length variables) s new (ap (λ b. content_of b s) (sym parts.right_front.body) ∙ rewrites.right) in
    record {
      first = before.0;
      others = before.1;
      made = after.0;
      rest_sort = parts.rest_sort;
      values_are = before.3;
      left_is = before.2;
      right_is = after.2;
      of_sorts = subst (λ xs. AreOfSorts o xs s) parts.sorts rewrites.suits.sorts;
    }

bounded_limit : (v w : Value) → bounded v ≡ Some w → depth_of w ≤ depth_limit
bounded_limit v w e =
    ⊎_elim
    (λ h. let same : v ≡ w = (let stated : Some v ≡ Some w = ap (λ b. cond b (Some v) None) (sym h.0) ∙ e in cc) in subst (λ u. depth_of u ≤ depth_limit) same h.1)
    (λ h. let none : None ≡ Some w = ap (λ b. cond b (Some v) None) (sym h.0) ∙ e in cc)
    (leb_tells (depth_of v) depth_limit)

-- a term of a production has a value that isn't too deep
pub applied_shallow : (p : Pattern) (s : Subst) (v : Value) → IsTrue (is_applied p) → eval p s ≡ Some v → depth_of v ≤ depth_limit
unfolding eval
applied_shallow (Node' p _ parts) s v applied e =
    let made = and_then_gives (λ vs. bounded (Node p vs)) (eval_row parts s) v e in bounded_limit (Node p made.0) v made.2
applied_shallow (Var x) s v applied e = cc
applied_shallow (Lit w) s v applied e = cc
applied_shallow (Items' _ _ _ _) s v applied e = cc
applied_shallow (Seq' _ _ _) s v applied e = cc
applied_shallow (Freezer' _ _ _ _) s v applied e = cc
applied_shallow (Apply' _ _ _) s v applied e = cc

pub AreOfSorts-length : (o : SortOrder) (xs : List ℕ) (s : Subst) → AreOfSorts o xs s → length xs ≡ length s
AreOfSorts-length o [] [] all = refl
AreOfSorts-length o [] (b ∷ s) all = absurd all
AreOfSorts-length o (x ∷ xs) [] all = absurd all
AreOfSorts-length o (x ∷ xs) (b ∷ s) all = ap suc (AreOfSorts-length o xs s all.1)

-- each value bound is of its variable's sort
pub AreOfSorts-at : (o : SortOrder) (xs : List ℕ) (bs : List (Bor Value)) (i : ℕ) (b : Bor Value) → i < length xs → i < length bs → b ≡ get_or bs i b → AreOfSorts o xs (wholes bs) → Below o (least_sort o b.now) (get_or xs i 0)
AreOfSorts-at o [] bs i b in_xs in_bs is all = absurd (omega arith)
AreOfSorts-at o (x ∷ xs) [] i b in_xs in_bs is all = absurd (omega arith)
AreOfSorts-at o (x ∷ xs) (c ∷ bs) zero b in_xs in_bs is all = subst (λ (d : Bor Value). Below o (least_sort o d.now) x) (sym is) all.0
AreOfSorts-at o (x ∷ xs) (c ∷ bs) (suc i) b in_xs in_bs is all = AreOfSorts-at o xs bs i b (omega arith) (omega arith) is all.1

AreOfSorts-front : (o : SortOrder) (xs more : List ℕ) (s tail : Subst) → length xs ≡ length s → AreOfSorts o (xs ++ more) (s ++ tail) → AreOfSorts o xs s
AreOfSorts-front o [] more [] tail count all = tt
AreOfSorts-front o [] more (b ∷ s) tail count all = absurd (omega arith)
AreOfSorts-front o (x ∷ xs) more [] tail count all = absurd (omega arith)
AreOfSorts-front o (x ∷ xs) more (b ∷ s) tail count all = (all.0, AreOfSorts-front o xs more s tail (omega arith) all.1)

pub bound_of_sorts : (o : SortOrder) (variables : List ℕ) (rest_sort : ℕ) (bound : List (Bor Value)) (s : Subst)
    → StartsBy bound s → length bound ≡ length variables → AreOfSorts o (variables ++ rest_sort ∷ []) s → AreOfSorts o variables (wholes bound)
bound_of_sorts o variables rest_sort bound s starts count all =
    AreOfSorts-front o variables (rest_sort ∷ []) (wholes bound) starts.0 (sym count ∙ sym (length-map bound (λ (b : Bor Value). Whole b.now)))
    (subst (λ t. AreOfSorts o (variables ++ rest_sort ∷ []) t) starts.1 all)

-- ---- what the search at the front finds, where the rule rewrites the sequence

module _ (o : SortOrder) (r : Rule) (s : Subst) (values new : List Value) (left right : Pattern) (variables : List ℕ) (parts : HasParts o r left right variables) (front : IsFrontRule o r) (rewrites : Rewrites o r s values new) where
  form : IsFrontForm left right variables
  form = front_form o r left right variables parts front

  here : Instance o s values left right variables
  here = instance_of o r s values new left right variables parts rewrites

  left_at : (first : Value) (others : List Value) → values ≡ first ∷ others → eval left s ≡ Some first
  left_at first others is =
      let same : first ∷ others ≡ here.first ∷ here.others = sym is ∙ here.values_are in
      let same_first : here.first ≡ first = cc in
      here.left_is ∙ ap Some same_first

  pub first_shallow : (first : Value) (others : List Value) → values ≡ first ∷ others → depth_of first ≤ depth_limit
  first_shallow first others is = applied_shallow left s first form.applied (left_at first others is)

  pub is_found : (first : Value) (others : List Value) (found : Bool) (bound : List (Bor Value)) → values ≡ first ∷ others → Finds [] bound left first found → IsFound found bound s (length variables)
  is_found first others found bound is finds = finds s (length variables) (s, refl) form.numbered (left_at first others is)

  pub is_of_sorts : (found : Bool) (bound : List (Bor Value)) → IsFound found bound s (length variables) → AreOfSorts o variables (wholes bound)
  is_of_sorts found bound is = bound_of_sorts o variables here.rest_sort bound s is.starts is.count here.of_sorts

  pub right_defined : (found : Bool) (bound : List (Bor Value)) → IsFound found bound s (length variables)
      → (IsTrue (is_front_term (length bound) right) → IsUndefined bound right) → ⊥
  right_defined found bound is undefined =
      let known : IsTrue (is_front_term (length bound) right) = subst (λ n. IsTrue (is_front_term n right)) (sym is.count) form.known in
      let none : None ≡ Some here.made = sym (undefined known is.starts.0) ∙ ap (eval right) (sym is.starts.1) ∙ here.right_is in cc
