use Rattle.std.proofs.Common.{◌≡◌, subst}
use Rattle.std.specs.Prelude.{Some}
use Rattle.rule_terms.specs.Eval.{eval}
use Rattle.rule_terms.specs.Patterns.{mentions}
use Rattle.leaf_match.specs.Bindings.{Tells, Reaches}
use Rattle.leaf_match.specs.Depths.{IsWithinDepth}
use Rattle.leaf_match.proofs.Depths.{told_unfound, told_within, reach_within}
use Rattle.leaf_match.proofs.values.match_value.Goals as goal

pub returns-then-not-branch-clause-tells : goal.returns-then-not-branch-clause-tells
returns-then-not-branch-clause-tells c =
    told_unfound c.args.variables.now.sorts.now c.args.variables.now.vars.now c.args.bindings.now c.match_pattern.new.bindings c.args.pattern.now c.args.value.now
    (subst (λ b. IsWithinDepth c.args.pattern.now c.args.value.now → Tells c.args.variables.now.sorts.now c.args.variables.now.vars.now b c.args.bindings.now c.match_pattern.new.bindings (λ s. eval c.args.pattern.now s ≡ Some c.args.value.now)) c.if-not-branch.true c.in_ok-match_pattern.ensures.tells)

pub returns-clause-tells : goal.returns-clause-tells
returns-clause-tells c =
    told_within c.args.variables.now.sorts.now c.args.variables.now.vars.now c.args.bindings.now c.match_pattern.new.bindings c.args.pattern.now c.args.value.now
    c.is_within_depth.result c.is_within_depth.ensures
    (subst (λ b. IsWithinDepth c.args.pattern.now c.args.value.now → Tells c.args.variables.now.sorts.now c.args.variables.now.vars.now b c.args.bindings.now c.match_pattern.new.bindings (λ s. eval c.args.pattern.now s ≡ Some c.args.value.now)) c.if-not-branch.false c.in_ok-match_pattern.ensures.tells)

pub returns-clause-reaches : goal.returns-clause-reaches
returns-clause-reaches c =
    reach_within c.is_within_depth.result c.args.bindings.now c.match_pattern.new.bindings (λ x. mentions x c.args.pattern.now)
    (subst (λ b. Reaches b c.args.bindings.now c.match_pattern.new.bindings (λ x. mentions x c.args.pattern.now)) c.if-not-branch.false c.in_ok-match_pattern.ensures.reaches)
