use Rattle.std.proofs.Common.{◌++◌, sym, ◌∙◌}
use Rattle.rule_contents.specs.Operators.{marked_by}
use Rattle.rule_contents.proofs.Marking.{marks_more, one_later}
use Rattle.rule_contents.proofs.marks.marked_prods.Goals as goal

pub loop-operator-preserved : goal.loop-operator-preserved
loop-operator-preserved c = (
  one_later c.args.own c.loop-operator.operator-index c.loop-operator.sort c.in_ok-sort.sort c.loop-operator.invariant.0 c.in_ok-sort.ensures,
  c.in_ok-add_marked.ensures
      ∙ (λ i. c.loop-operator.invariant.1 i ++ marked_by (c.loop-operator.invariant.0 i) (c.operator-item.is i) (c.operator-item.is i).items)
      ∙ sym (marks_more c.args.own c.args.operators.now c.loop-operator.operator-index c.operator-item.result c.loop-operator-test.true),
)
