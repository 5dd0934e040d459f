use Rattle.std.proofs.Common.{arith, sym, ◌∙◌, subst, [], ◌∷◌, ◌++◌, ◌≤◌, true, false, ◌≡◌, refl, length}
use Rattle.std.specs.Prelude.{IsTrue}
use Rattle.k_terms.specs.declared.value.Value.{Seq}
use Rattle.k_terms.specs.Value.{depth_of}
use Rattle.k_terms.specs.Operators.{depth_limit}
use Rattle.rule_terms.specs.Substitution.{Whole, AreOfSorts}
use Rattle.front_run.specs.Bindings.{wholes, IsAt, IsUndefined}
use Rattle.front_run.specs.Front.{Rewrites, is_front_term}
use Rattle.front_run.proofs.Firing.{rewrites}
use Rattle.front_run.proofs.Matching.{first_shallow, is_found, is_of_sorts, right_defined}
use Rattle.front_run.proofs.rewrite.rewrite.Goals as goal

pub returns : goal.returns
returns c =
    let bound = c.bind.new.bound.items in
    let others = c.in-Some-split_first.others.now in
    let first = c.in-Some-split_first.first.now in
    let parts = c.in-Some.parts in
    let s = wholes bound ++ Whole (Seq others) ∷ [] in
    let shallow : depth_of first ≤ depth_limit = omega (arith, c.depth.ensures) in
    let left_at = rw c.if-not-branch.false at (c.in_ok-bind.ensures.at shallow) in
    let made_at = rw c.in-Some-2.is at c.in_ok-made.ensures.at in
    let made = c.in-Some-2.made in
    let o = c.args.sorts.now in
    let r = c.args.rule.now in
    let base = rewrites o r parts.left.now parts.right.now parts.variables.now bound first made others c.in-Some.ensures.parts left_at
    (subst (λ bs. IsAt bs parts.right.now made) c.as_slice-2.ensures.value made_at)
    (subst (λ bs. AreOfSorts o parts.variables.now (wholes bs)) c.as_slice.ensures.value (c.if-not-are_of_sorts.ensures.0 refl)) in
    record {
      rewrites = (s, subst (λ vs. Rewrites o r s vs c.in_ok-put_before.field-0) (sym c.in-Some-split_first.ensures.cases.0) (subst (λ ws. Rewrites o r s (first ∷ others) ws) (sym c.in_ok-put_before.ensures) base));
      none = tt;
    }

pub returns-in_default-clause-none : goal.returns-in_default-clause-none
returns-in_default-clause-none c = λ front s new rewrites. c.in_default.ensures.none front.left front.right front.variables front.parts

pub returns-then-depth-gt-DEPTH_LIMIT-clause-none : goal.returns-then-depth-gt-DEPTH_LIMIT-clause-none
returns-then-depth-gt-DEPTH_LIMIT-clause-none c = λ front s new rewrites.
    let shallow : depth_of c.in-Some-split_first.first.now ≤ depth_limit =
    first_shallow c.args.sorts.now c.args.rule.now s c.args.values.now new c.in-Some.parts.left.now c.in-Some.parts.right.now c.in-Some.parts.variables.now c.in-Some.ensures.parts front rewrites
    c.in-Some-split_first.first.now c.in-Some-split_first.others.now c.in-Some-split_first.ensures.cases.0 in
    omega (arith, c.depth.ensures, c.if-depth-gt-DEPTH_LIMIT.true)

pub returns-then-not-branch-clause-none : goal.returns-then-not-branch-clause-none
returns-then-not-branch-clause-none c = λ front s new rewrites.
    let found = is_found c.args.sorts.now c.args.rule.now s c.args.values.now new c.in-Some.parts.left.now c.in-Some.parts.right.now c.in-Some.parts.variables.now c.in-Some.ensures.parts front rewrites
    c.in-Some-split_first.first.now c.in-Some-split_first.others.now c.in_ok-bind.field-0 c.bind.new.bound.items c.in-Some-split_first.ensures.cases.0 (rw c.new-bound.ensures.items at c.in_ok-bind.ensures.finds) in
    let no : false ≡ true = sym c.if-not-branch.true ∙ found.yes in cc

pub returns-then-not-are_of_sorts-clause-none : goal.returns-then-not-are_of_sorts-clause-none
returns-then-not-are_of_sorts-clause-none c = λ front s new rewrites.
    let found = is_found c.args.sorts.now c.args.rule.now s c.args.values.now new c.in-Some.parts.left.now c.in-Some.parts.right.now c.in-Some.parts.variables.now c.in-Some.ensures.parts front rewrites
    c.in-Some-split_first.first.now c.in-Some-split_first.others.now c.in_ok-bind.field-0 c.bind.new.bound.items c.in-Some-split_first.ensures.cases.0 (rw c.new-bound.ensures.items at c.in_ok-bind.ensures.finds) in
    let all = is_of_sorts c.args.sorts.now c.args.rule.now s c.args.values.now new c.in-Some.parts.left.now c.in-Some.parts.right.now c.in-Some.parts.variables.now c.in-Some.ensures.parts front rewrites
    c.in_ok-bind.field-0 c.bind.new.bound.items found in
    let no : false ≡ true = c.if-not-are_of_sorts.ensures.1 (subst (λ bs. AreOfSorts c.args.sorts.now c.in-Some.parts.variables.now (wholes bs)) (sym c.as_slice.ensures.value) all) in cc

pub returns-in_default-2-clause-none : goal.returns-in_default-2-clause-none
returns-in_default-2-clause-none c = λ front s new rewrites.
    let found = is_found c.args.sorts.now c.args.rule.now s c.args.values.now new c.in-Some.parts.left.now c.in-Some.parts.right.now c.in-Some.parts.variables.now c.in-Some.ensures.parts front rewrites
    c.in-Some-split_first.first.now c.in-Some-split_first.others.now c.in_ok-bind.field-0 c.bind.new.bound.items c.in-Some-split_first.ensures.cases.0 (rw c.new-bound.ensures.items at c.in_ok-bind.ensures.finds) in
    right_defined c.args.sorts.now c.args.rule.now s c.args.values.now new c.in-Some.parts.left.now c.in-Some.parts.right.now c.in-Some.parts.variables.now c.in-Some.ensures.parts front rewrites
    c.in_ok-bind.field-0 c.bind.new.bound.items found
    (subst (λ bs. IsTrue (is_front_term (length bs) c.in-Some.parts.right.now) → IsUndefined bs c.in-Some.parts.right.now) c.as_slice-2.ensures.value (rw c.in_default-2.is at c.in_ok-made.ensures.none))
