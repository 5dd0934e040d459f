use Rattle.std.proofs.Common.{subst}
use Rattle.leaf_match.specs.Bindings.{Tells, Reaches}
use Rattle.leaf_match.specs.Contents.{IsBodyAt, leaf_mentions}
use Rattle.leaf_match.proofs.Leaves.{bound_none, bound_some}
use Rattle.leaf_match.proofs.bindings.bind_leaf.Goals as goal

pub returns-then-not-branch : goal.returns-then-not-branch
returns-then-not-branch c =
    bound_none c.args.sorts.now c.args.vars.now c.in_ok-bindings.bindings c.match_body.new.self c.args.body.now c.args.content.now c.args.keys.now c.in_ok-bindings.ensures
    (subst (λ b. Tells c.args.sorts.now c.args.vars.now b c.in_ok-bindings.bindings c.match_body.new.self (IsBodyAt c.args.body.now c.args.content.now c.args.keys.now)) c.if-not-branch.true c.in_ok-match_body.ensures.tells)

pub returns : goal.returns
returns c =
    bound_some c.args.sorts.now c.args.vars.now c.in_ok-bindings.bindings c.match_body.new.self c.args.body.now c.args.content.now c.args.keys.now c.in_ok-bindings.ensures
    (subst (λ b. Tells c.args.sorts.now c.args.vars.now b c.in_ok-bindings.bindings c.match_body.new.self (IsBodyAt c.args.body.now c.args.content.now c.args.keys.now)) c.if-not-branch.false c.in_ok-match_body.ensures.tells)
    (subst (λ b. Reaches b c.in_ok-bindings.bindings c.match_body.new.self (λ x. leaf_mentions x c.args.body.now)) c.if-not-branch.false c.in_ok-match_body.ensures.reaches)
