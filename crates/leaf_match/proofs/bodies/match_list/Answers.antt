use Rattle.std.proofs.Common.{◌≡◌, sym, subst, refl}
use Rattle.std.specs.Prelude.{Some}
use Rattle.k_terms.specs.Operators.{as_members}
use Rattle.rule_terms.specs.Options.{joined}
use Rattle.rule_terms.specs.Substitution.{rest_of}
use Rattle.rule_terms.specs.Eval.{eval_all}
use Rattle.leaf_match.specs.Bindings.{Tells}
use Rattle.leaf_match.proofs.Rows.{empty_told}
use Rattle.leaf_match.proofs.ToldLists.{told_short, told_no_first, told_no_last, told_middle, told_no_middle}
use Rattle.leaf_match.proofs.bodies.match_list.Goals as goal

pub returns-then-before-after-clause-tells : goal.returns-then-before-after-clause-tells
returns-then-before-after-clause-tells c = told_short c.args.variables.now.sorts.now c.args.variables.now.vars.now c.args.before.now c.args.after.now c.args.values.now c.args.rest c.args.bindings.now c.if-before-after.true

pub returns-then-not-branch-clause-tells : goal.returns-then-not-branch-clause-tells
returns-then-not-branch-clause-tells c =
    told_no_first c.args.variables.now.sorts.now c.args.variables.now.vars.now c.args.before.now c.args.after.now c.args.values.now c.split_at.result.0.now c.split_at-2.result.0.now c.split_at-2.result.1.now c.split_at.result.1.now c.split_at.ensures.front c.split_at.ensures.back c.split_at-2.ensures.front c.split_at-2.ensures.back c.args.rest c.args.bindings.now c.match_values.new.bindings c.match_values.new.bindings
    (subst (λ b. Tells c.args.variables.now.sorts.now c.args.variables.now.vars.now b c.args.bindings.now c.match_values.new.bindings (λ s. eval_all c.args.before.now s ≡ Some c.split_at.result.0.now)) c.if-not-branch.true c.in_ok-match_values.ensures.tells)

pub returns-then-not-branch-2-clause-tells : goal.returns-then-not-branch-2-clause-tells
returns-then-not-branch-2-clause-tells c =
    told_no_last c.args.variables.now.sorts.now c.args.variables.now.vars.now c.args.before.now c.args.after.now c.args.values.now c.split_at.result.0.now c.split_at-2.result.0.now c.split_at-2.result.1.now c.split_at.result.1.now c.split_at.ensures.front c.split_at.ensures.back c.split_at-2.ensures.front c.split_at-2.ensures.back c.args.rest c.args.bindings.now c.match_values.new.bindings c.match_values-2.new.bindings c.match_values-2.new.bindings
    (subst (λ b. Tells c.args.variables.now.sorts.now c.args.variables.now.vars.now b c.args.bindings.now c.match_values.new.bindings (λ s. eval_all c.args.before.now s ≡ Some c.split_at.result.0.now)) c.if-not-branch.false c.in_ok-match_values.ensures.tells) (subst (λ b. Tells c.args.variables.now.sorts.now c.args.variables.now.vars.now b c.match_values.new.bindings c.match_values-2.new.bindings (λ s. eval_all c.args.after.now s ≡ Some c.split_at-2.result.1.now)) c.if-not-branch-2.true c.in_ok-match_values-2.ensures.tells)

pub returns-in_ok-found-in-Some-clause-tells : goal.returns-in_ok-found-in-Some-clause-tells
returns-in_ok-found-in-Some-clause-tells c =
    subst (λ rest. Tells c.args.variables.now.sorts.now c.args.variables.now.vars.now c.in_ok-found-in-Some.found c.args.bindings.now c.bind.new.self (λ s. joined (joined (eval_all c.args.before.now s) (rest_of as_members rest s)) (eval_all c.args.after.now s) ≡ Some c.args.values.now)) (sym c.in-Some.is)
    (told_middle c.args.variables.now.sorts.now c.args.variables.now.vars.now c.args.before.now c.args.after.now c.args.values.now c.split_at.result.0.now c.split_at-2.result.0.now c.split_at-2.result.1.now c.split_at.result.1.now c.split_at.ensures.front c.split_at.ensures.back c.split_at-2.ensures.front c.split_at-2.ensures.back c.in_ok-found-in-Some.found c.args.bindings.now c.match_values.new.bindings c.match_values-2.new.bindings c.bind.new.self c.in-Some.number _ refl
    (subst (λ b. Tells c.args.variables.now.sorts.now c.args.variables.now.vars.now b c.args.bindings.now c.match_values.new.bindings (λ s. eval_all c.args.before.now s ≡ Some c.split_at.result.0.now)) c.if-not-branch.false c.in_ok-match_values.ensures.tells) (subst (λ b. Tells c.args.variables.now.sorts.now c.args.variables.now.vars.now b c.match_values.new.bindings c.match_values-2.new.bindings (λ s. eval_all c.args.after.now s ≡ Some c.split_at-2.result.1.now)) c.if-not-branch-2.false c.in_ok-match_values-2.ensures.tells) c.in_ok-found-in-Some.ensures.tells)

pub returns-in-None-clause-tells : goal.returns-in-None-clause-tells
returns-in-None-clause-tells c =
    subst (λ rest. Tells c.args.variables.now.sorts.now c.args.variables.now.vars.now c.is_empty-found.result c.args.bindings.now c.match_values-2.new.bindings (λ s. joined (joined (eval_all c.args.before.now s) (rest_of as_members rest s)) (eval_all c.args.after.now s) ≡ Some c.args.values.now)) (sym c.in-None.is)
    (told_no_middle c.args.variables.now.sorts.now c.args.variables.now.vars.now c.args.before.now c.args.after.now c.args.values.now c.split_at.result.0.now c.split_at-2.result.0.now c.split_at-2.result.1.now c.split_at.result.1.now c.split_at.ensures.front c.split_at.ensures.back c.split_at-2.ensures.front c.split_at-2.ensures.back c.is_empty-found.result c.args.bindings.now c.match_values.new.bindings c.match_values-2.new.bindings
    (empty_told c.split_at-2.result.0.now c.is_empty-found.result c.is_empty-found.ensures)
    (subst (λ b. Tells c.args.variables.now.sorts.now c.args.variables.now.vars.now b c.args.bindings.now c.match_values.new.bindings (λ s. eval_all c.args.before.now s ≡ Some c.split_at.result.0.now)) c.if-not-branch.false c.in_ok-match_values.ensures.tells) (subst (λ b. Tells c.args.variables.now.sorts.now c.args.variables.now.vars.now b c.match_values.new.bindings c.match_values-2.new.bindings (λ s. eval_all c.args.after.now s ≡ Some c.split_at-2.result.1.now)) c.if-not-branch-2.false c.in_ok-match_values-2.ensures.tells))
