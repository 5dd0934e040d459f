use Rattle.std.specs.List.{AllByRecursion}
use Rattle.rule_terms.specs.Eval.{IsMet}
use Rattle.right_sides.proofs.Cells.{true_of_next}
use Rattle.right_sides.proofs.conditions.all_met.Goals as goal

pub loop-condition-preserved : goal.loop-condition-preserved
loop-condition-preserved c = λ s seen.
    true_of_next (IsMet c.args.sorts.now s) c.args.conditions.now c.loop-condition.condition-index c.condition-item.result (AllByRecursion (IsMet c.args.sorts.now s) c.args.conditions.now)
    c.loop-condition-test.true c.condition-item.is ((c.in_ok-is_met.ensures s seen).0 c.if-not-branch.false) (c.loop-condition.invariant s seen)
