use Rattle.std.proofs.Common.{rules, sym, ◌∙◌, ap, subst, ◌≤◌, ◌≡◌, length, [], append-nil, true, false}
use Rattle.std.specs.List.{AllByRecursion}
use Rattle.k_terms.specs.declared.value.Value.{Node}
use Rattle.rule_terms.specs.declared.pattern.Pattern.{Node as NodeP}
use Rattle.k_terms.specs.Value.{depth_of}
use Rattle.k_terms.specs.Operators.{depth_limit}
use Rattle.front_run.proofs.Finding.{variable_found, variable_missed, node_found, node_missed, other_value_missed, other_missed, goes_on, goes_to_end, eval_all_length}
use Rattle.front_run.proofs.Binding.{parts_shallow, var_at, node_holds, Extends-then, shallow_at, at_next, at_whole}
use Rattle.front_run.proofs.bind.+binding.Goals as goal

pub bind-returns-in_ok-push-in-Var-clause-at : goal.bind-returns-in_ok-push-in-Var-clause-at
bind-returns-in_ok-push-in-Var-clause-at t c = λ _.
    var_at c.args.bound.now.items c.push.new.self.items c.args.value c.args.pattern.now c.in-Var.number c.in-Var.is (search rules) c.in_ok-push-in-Var.ensures.items

pub bind-returns-in_ok-found-in-Node-value-clause-at : goal.bind-returns-in_ok-found-in-Node-value-clause-at
bind-returns-in_ok-found-in-Node-value-clause-at t c = λ shallow.
    let parts = parts_shallow c.in-Node-value.other c.in-Node-value.values (subst (λ v. depth_of v ≤ depth_limit) c.in-Node-value.is shallow) in
    let all = subst (λ vs. AllByRecursion (λ v. depth_of v ≤ depth_limit) vs) (sym c.as_slice-in-Node-value.ensures) parts in
    node_holds c.in_ok-found-in-Node-value.found c.bind_all.new.bound.items c.args.pattern.now c.args.value.now c.in-Node.production c.as_slice.result.now c.as_slice-in-Node-value.result.now
    (c.in-Node.is ∙ ap (NodeP c.in-Node.production) (sym c.as_slice.ensures))
    (c.in-Node-value.is ∙ ap (λ n. Node n c.in-Node-value.values) (sym c.if-production-other.false) ∙ ap (Node c.in-Node.production) (sym c.as_slice-in-Node-value.ensures))
    shallow (c.in_ok-found-in-Node-value.ensures.at all)

pub bind_all-loop-i-preserved : goal.bind_all-loop-i-preserved
bind_all-loop-i-preserved t c = record {
  extends = Extends-then c.args.bound.now.items c.loop-i.bound.items c.bind.new.bound.items c.loop-i.invariant.extends c.in_ok-bind.ensures.extends;
  at = λ all. at_next c.loop-i.bound.items c.bind.new.bound.items c.args.patterns.now c.args.values.now c.loop-i.i c.index-patterns-i.result c.index-values-i.result
      (search rules) (search rules) c.index-patterns-i.is c.index-values-i.is c.in_ok-bind.ensures.extends (c.loop-i.invariant.at all)
      (rw c.if-not-branch.false at (c.in_ok-bind.ensures.at (shallow_at c.args.values.now c.loop-i.i c.index-values-i.result all (search rules) c.index-values-i.is)));
  finds = λ s next starts numbered values.
      (goes_on c.loop-i.bound.items c.bind.new.bound.items c.args.patterns.now c.args.values.now c.loop-i.i c.index-patterns-i.result c.index-values-i.result c.in_ok-bind.field-0 s next
      (search rules) (search rules) c.index-patterns-i.is c.index-values-i.is c.in_ok-bind.ensures.finds (c.loop-i.invariant.finds s next starts numbered values)).1;
}

pub bind_all-returns-clause-at : goal.bind_all-returns-clause-at
bind_all-returns-clause-at t c = λ all. at_whole c.loop-i.bound.items c.args.patterns.now c.args.values.now c.loop-i.i (search rules) (search rules) (c.loop-i.invariant.at all)

pub bind-returns-then-number-len-clause-finds : goal.bind-returns-then-number-len-clause-finds
bind-returns-then-number-len-clause-finds t c =
    variable_missed c.args.bound.now.items c.args.bound.now.items c.args.pattern.now c.in-Var.number c.args.value.now c.in-Var.is
    (λ same. c.if-number-len.true (same ∙ (let count : length c.args.bound.now.items ≡ c.len.result = search rules in count)))

pub bind-returns-then-production-other-clause-finds : goal.bind-returns-then-production-other-clause-finds
bind-returns-then-production-other-clause-finds t c =
    node_missed c.args.bound.now.items c.args.bound.now.items c.args.pattern.now c.args.value.now c.in-Node.production c.in-Node-value.other c.in-Node.patterns c.in-Node-value.values
    c.in-Node.is c.in-Node-value.is c.if-production-other.true

pub bind-returns-in_ok-push-in-Var-clause-finds : goal.bind-returns-in_ok-push-in-Var-clause-finds
bind-returns-in_ok-push-in-Var-clause-finds t c =
    variable_found c.args.bound.now.items c.push.new.self.items c.args.value c.args.pattern.now c.in-Var.number c.in-Var.is c.in_ok-push-in-Var.ensures.items

pub bind-returns-in_ok-found-in-Node-value-clause-finds : goal.bind-returns-in_ok-found-in-Node-value-clause-finds
bind-returns-in_ok-found-in-Node-value-clause-finds t c =
    node_found c.args.bound.now.items c.bind_all.new.bound.items c.args.pattern.now c.args.value.now c.in-Node.production c.as_slice.result.now c.as_slice-in-Node-value.result.now c.in_ok-found-in-Node-value.found
    (c.in-Node.is ∙ ap (NodeP c.in-Node.production) (sym c.as_slice.ensures))
    (c.in-Node-value.is ∙ ap (λ n. Node n c.in-Node-value.values) (sym c.if-production-other.false) ∙ ap (Node c.in-Node.production) (sym c.as_slice-in-Node-value.ensures))
    c.in_ok-found-in-Node-value.ensures.finds

pub bind-returns-in_default-value : goal.bind-returns-in_default-value
bind-returns-in_default-value t c = record {
  extends = ([], sym (append-nil c.args.bound.now.items));
  at = λ _. tt;
  finds = other_value_missed c.args.bound.now.items c.args.bound.now.items c.args.pattern.now c.args.value.now c.in-Node.production c.in-Node.patterns c.in-Node.is c.in_default-value.not-Node;
}

pub bind-returns-in_default : goal.bind-returns-in_default
bind-returns-in_default t c = record {
  extends = ([], sym (append-nil c.args.bound.now.items));
  at = λ _. tt;
  finds = other_missed c.args.bound.now.items c.args.bound.now.items c.args.pattern.now c.args.value.now c.in_default.not-Var c.in_default.not-Node;
}

pub bind_all-returns-then-patterns-values-clause-finds : goal.bind_all-returns-then-patterns-values-clause-finds
bind_all-returns-then-patterns-values-clause-finds t c = λ s next starts numbered values.
    absurd (c.if-patterns-values.true (eval_all_length c.args.patterns.now s c.args.values.now values))

pub bind_all-returns-then-not-branch-clause-finds : goal.bind_all-returns-then-not-branch-clause-finds
bind_all-returns-then-not-branch-clause-finds t c = λ s next starts numbered values.
    let on = goes_on c.loop-i.bound.items c.bind.new.bound.items c.args.patterns.now c.args.values.now c.loop-i.i c.index-patterns-i.result c.index-values-i.result c.in_ok-bind.field-0 s next
    (search rules) (search rules) c.index-patterns-i.is c.index-values-i.is c.in_ok-bind.ensures.finds (c.loop-i.invariant.finds s next starts numbered values) in
    let stays : true ≡ false = sym on.0 ∙ c.if-not-branch.true in
    cc

pub bind_all-returns-clause-finds : goal.bind_all-returns-clause-finds
bind_all-returns-clause-finds t c = λ s next starts numbered values.
    goes_to_end c.loop-i.bound.items c.args.patterns.now c.args.values.now c.loop-i.i s next (search rules) (c.loop-i.invariant.finds s next starts numbered values)
