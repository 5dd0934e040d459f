use Rattle.std.proofs.Common.{rules, ◌≡◌, subst}
use Rattle.std.specs.Prelude.{Some}
use Rattle.rule_terms.specs.Eval.{eval}
use Rattle.rule_terms.specs.Patterns.{mentions}
use Rattle.rule_terms.specs.Sound.{has_no_operator}
use Rattle.leaf_match.specs.Bindings.{Tells, Reaches}
use Rattle.leaf_match.proofs.Fronts.{eval_all_length}
use Rattle.leaf_match.proofs.Rows.{plain_at}
use Rattle.leaf_match.proofs.Told.{told_next, told_no_next}
use Rattle.leaf_match.proofs.Reaching.{reach_next}
use Rattle.leaf_match.proofs.values.match_values.Goals as goal

pub match_value-requires-clause-plain : goal.match_value-requires-clause-plain
match_value-requires-clause-plain c = plain_at has_no_operator c.args.patterns.now c.loop-i.i c.index-patterns-i.result c.requires.plain c.loop-i-test.true c.index-patterns-i.is

pub returns-then-patterns-values-clause-tells : goal.returns-then-patterns-values-clause-tells
returns-then-patterns-values-clause-tells c =
    λ s sorts agrees holds. c.if-patterns-values.true (eval_all_length c.args.patterns.now s c.args.values.now holds)

pub returns-then-not-branch-clause-tells : goal.returns-then-not-branch-clause-tells
returns-then-not-branch-clause-tells c =
    told_no_next c.args.variables.now.sorts.now c.args.variables.now.vars.now c.args.bindings.now c.loop-i.bindings c.match_value.new.bindings c.args.patterns.now c.args.values.now c.loop-i.i
    c.index-patterns-i.result c.index-values-i.result c.loop-i-test.true (search rules) c.index-patterns-i.is c.index-values-i.is c.loop-i.invariant.tells
    (subst (λ b. Tells c.args.variables.now.sorts.now c.args.variables.now.vars.now b c.loop-i.bindings c.match_value.new.bindings (λ s. eval c.index-patterns-i.result s ≡ Some c.index-values-i.result))
    c.if-not-branch.true c.in_ok-match_value.ensures.tells) c.match_value.new.bindings

pub loop-i-preserved : goal.loop-i-preserved
loop-i-preserved c = record {
  suited = c.in_ok-match_value.ensures.suited;
  tells = told_next c.args.variables.now.sorts.now c.args.variables.now.vars.now c.args.bindings.now c.loop-i.bindings c.match_value.new.bindings c.args.patterns.now c.args.values.now c.loop-i.i
      c.index-patterns-i.result c.index-values-i.result c.loop-i-test.true (search rules) c.index-patterns-i.is c.index-values-i.is c.loop-i.invariant.tells
      (subst (λ b. Tells c.args.variables.now.sorts.now c.args.variables.now.vars.now b c.loop-i.bindings c.match_value.new.bindings (λ s. eval c.index-patterns-i.result s ≡ Some c.index-values-i.result))
      c.if-not-branch.false c.in_ok-match_value.ensures.tells);
  reaches = reach_next mentions c.args.bindings.now c.loop-i.bindings c.match_value.new.bindings c.args.patterns.now c.loop-i.i c.index-patterns-i.result
      c.loop-i-test.true c.index-patterns-i.is c.loop-i.invariant.reaches
      (subst (λ b. Reaches b c.loop-i.bindings c.match_value.new.bindings (λ x. mentions x c.index-patterns-i.result)) c.if-not-branch.false c.in_ok-match_value.ensures.reaches);
}
