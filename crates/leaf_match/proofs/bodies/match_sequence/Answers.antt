use Rattle.std.proofs.Common.{◌≡◌, sym, subst, refl, length, take, drop}
use Rattle.std.specs.Prelude.{Some}
use Rattle.k_terms.specs.declared.value.Value.{Seq}
use Rattle.rule_terms.specs.Options.{joined}
use Rattle.rule_terms.specs.Substitution.{rest_of, as_sequence}
use Rattle.rule_terms.specs.Eval.{eval_all}
use Rattle.leaf_match.specs.Bindings.{Tells}
use Rattle.leaf_match.proofs.Fronts.{sequences}
use Rattle.leaf_match.proofs.Rows.{empty_told}
use Rattle.leaf_match.proofs.Told.{told_few, told_no_front, told_rest, told_end}
use Rattle.leaf_match.proofs.bodies.match_sequence.Goals as goal

pub returns-then-parts-values-clause-tells : goal.returns-then-parts-values-clause-tells
returns-then-parts-values-clause-tells c =
    told_few c.args.variables.now.sorts.now c.args.variables.now.vars.now as_sequence Seq sequences c.args.parts.now c.args.values.now (take (length c.args.parts.now) c.args.values.now) (drop (length c.args.parts.now) c.args.values.now) refl refl c.args.rest c.args.bindings.now c.if-parts-values.true

pub returns-then-not-branch-clause-tells : goal.returns-then-not-branch-clause-tells
returns-then-not-branch-clause-tells c =
    told_no_front c.args.variables.now.sorts.now c.args.variables.now.vars.now as_sequence Seq sequences c.args.parts.now c.args.values.now c.split_at.result.0.now c.split_at.result.1.now c.split_at.ensures.front c.split_at.ensures.back c.args.rest c.args.bindings.now c.match_values.new.bindings c.match_values.new.bindings
    (subst (λ b. Tells c.args.variables.now.sorts.now c.args.variables.now.vars.now b c.args.bindings.now c.match_values.new.bindings (λ s. eval_all c.args.parts.now s ≡ Some c.split_at.result.0.now)) c.if-not-branch.true c.in_ok-match_values.ensures.tells)

pub returns-in_ok-found-in-Some-clause-tells : goal.returns-in_ok-found-in-Some-clause-tells
returns-in_ok-found-in-Some-clause-tells c =
    subst (λ rest. Tells c.args.variables.now.sorts.now c.args.variables.now.vars.now c.in_ok-found-in-Some.found c.args.bindings.now c.bind.new.self (λ s. joined (eval_all c.args.parts.now s) (rest_of as_sequence rest s) ≡ Some c.args.values.now)) (sym c.in-Some.is)
    (told_rest c.args.variables.now.sorts.now c.args.variables.now.vars.now as_sequence Seq sequences c.args.parts.now c.args.values.now c.split_at.result.0.now c.split_at.result.1.now c.split_at.ensures.front c.split_at.ensures.back c.in_ok-found-in-Some.found c.args.bindings.now c.match_values.new.bindings c.bind.new.self c.in-Some.number _ refl
    (subst (λ b. Tells c.args.variables.now.sorts.now c.args.variables.now.vars.now b c.args.bindings.now c.match_values.new.bindings (λ s. eval_all c.args.parts.now s ≡ Some c.split_at.result.0.now)) c.if-not-branch.false c.in_ok-match_values.ensures.tells) c.in_ok-found-in-Some.ensures.tells)

pub returns-in-None-clause-tells : goal.returns-in-None-clause-tells
returns-in-None-clause-tells c =
    subst (λ rest. Tells c.args.variables.now.sorts.now c.args.variables.now.vars.now c.is_empty-found.result c.args.bindings.now c.match_values.new.bindings (λ s. joined (eval_all c.args.parts.now s) (rest_of as_sequence rest s) ≡ Some c.args.values.now)) (sym c.in-None.is)
    (told_end c.args.variables.now.sorts.now c.args.variables.now.vars.now as_sequence Seq sequences c.args.parts.now c.args.values.now c.split_at.result.0.now c.split_at.result.1.now c.split_at.ensures.front c.split_at.ensures.back c.is_empty-found.result c.args.bindings.now c.match_values.new.bindings
    (empty_told c.split_at.result.1.now c.is_empty-found.result c.is_empty-found.ensures)
    (subst (λ b. Tells c.args.variables.now.sorts.now c.args.variables.now.vars.now b c.args.bindings.now c.match_values.new.bindings (λ s. eval_all c.args.parts.now s ≡ Some c.split_at.result.0.now)) c.if-not-branch.false c.in_ok-match_values.ensures.tells))
