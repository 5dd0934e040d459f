use Rattle.std.proofs.Common.{rules, arith, sym, ◌∙◌, ap, ◌≤◌, ◌<◌, length}
use Rattle.std.specs.Prelude.{Some}
use Rattle.k_terms.specs.Value.{depth_of}
use Rattle.k_terms.specs.Operators.{depth_limit}
use Rattle.rule_terms.specs.declared.pattern.Pattern.{Node as NodeP}
use Rattle.k_terms.specs.declared.value.Value.{Node}
use Rattle.front_run.proofs.Finding.{variable_known, parts_known, no_other_term, node_undefined, all_undefined, deep_undefined, front_at}
use Rattle.front_run.proofs.Binding.{bound_at, node_at, at_next_pushed, at_all}
use Rattle.front_run.proofs.build.+building.Goals as goal

pub build-returns-in_ok-copy-in-Var : goal.build-returns-in_ok-copy-in-Var
build-returns-in_ok-copy-in-Var t c = record {
  at = bound_at c.args.bound.now c.index-bound-place.result c.args.pattern.now c.in-Var.number c.in_ok-copy-in-Var.field-0 c.in-Var.is (search rules) c.index-bound-place.is c.in_ok-copy-in-Var.ensures.ok;
  none = tt;
}

pub build-returns-else-depth-gt-DEPTH_LIMIT : goal.build-returns-else-depth-gt-DEPTH_LIMIT
build-returns-else-depth-gt-DEPTH_LIMIT t c =
    let at = rw c.in-Some.is at c.in_ok-values-in-Node.ensures.at in
    let shallow : depth_of (Node c.in-Node.production c.from_vec.result) ≤ depth_limit = omega (arith, c.depth.ensures) in
    record {
      at = node_at c.args.bound.now c.args.pattern.now (Node c.in-Node.production c.from_vec.result) c.in-Node.production c.as_slice.result.now c.in-Some.values.items
          (c.in-Node.is ∙ ap (NodeP c.in-Node.production) (sym c.as_slice.ensures)) (ap (Node c.in-Node.production) c.from_vec.ensures) shallow at;
      none = tt;
    }

pub build_all-loop-pattern-preserved : goal.build_all-loop-pattern-preserved
build_all-loop-pattern-preserved t c =
    at_next_pushed c.args.bound.now c.args.patterns.now c.loop-pattern.values.items c.push.new.self.items c.loop-pattern.pattern-index c.pattern-item.result c.in-Some.value (search rules) c.pattern-item.is c.in_ok-push-in-Some.ensures.items
    c.loop-pattern.invariant (rw c.in-Some.is at c.in_ok-value.ensures.at)

pub build_all-returns : goal.build_all-returns
build_all-returns t c = record { at = at_all c.args.bound.now c.args.patterns.now c.loop-pattern.values.items c.loop-pattern.pattern-index c.loop-pattern-test.false c.loop-pattern.invariant; none = tt }

pub build-returns-then-place-bound-clause-none : goal.build-returns-then-place-bound-clause-none
build-returns-then-place-bound-clause-none t c = λ known. absurd (variable_known (length c.args.bound.now) c.args.pattern.now c.in-Var.number c.in-Var.is (search rules) known)

pub build-returns-in_default-2-clause-none : goal.build-returns-in_default-2-clause-none
build-returns-in_default-2-clause-none t c = λ known.
    let is = c.in-Node.is ∙ ap (NodeP c.in-Node.production) (sym c.as_slice.ensures) in
    node_undefined c.args.bound.now c.args.pattern.now c.in-Node.production c.as_slice.result.now is
    ((rw c.in_default-2.is at c.in_ok-values-in-Node.ensures.none) (parts_known (length c.args.bound.now) c.args.pattern.now c.in-Node.production c.as_slice.result.now is known))

pub build-returns-then-depth-gt-DEPTH_LIMIT-clause-none : goal.build-returns-then-depth-gt-DEPTH_LIMIT-clause-none
build-returns-then-depth-gt-DEPTH_LIMIT-clause-none t c = λ known tail.
    let at = rw c.in-Some.is at c.in_ok-values-in-Node.ensures.at in
    let deep : depth_limit < depth_of (Node c.in-Node.production c.from_vec.result) = omega (arith, c.depth.ensures, c.if-depth-gt-DEPTH_LIMIT.true) in
    deep_undefined c.args.bound.now c.args.pattern.now c.in-Node.production c.as_slice.result.now c.from_vec.result
    (c.in-Node.is ∙ ap (NodeP c.in-Node.production) (sym c.as_slice.ensures)) tail (at tail ∙ ap Some (sym c.from_vec.ensures)) deep

pub build-returns-in_default : goal.build-returns-in_default
build-returns-in_default t c = record {
  at = tt;
  none = λ known. absurd (no_other_term (length c.args.bound.now) c.args.pattern.now c.in_default.not-Var c.in_default.not-Node known);
}

pub build_all-returns-in-None-clause-none : goal.build_all-returns-in-None-clause-none
build_all-returns-in-None-clause-none t c = λ known.
    let here = front_at (length c.args.bound.now) c.args.patterns.now c.loop-pattern.pattern-index c.pattern-item.result (search rules) c.pattern-item.is known in
    all_undefined c.args.bound.now c.args.patterns.now c.loop-pattern.pattern-index c.pattern-item.result (search rules) c.pattern-item.is
    ((rw c.in-None.is at c.in_ok-value.ensures.none) here)
