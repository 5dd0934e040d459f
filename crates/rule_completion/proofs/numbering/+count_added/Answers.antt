use Rattle.std.proofs.Common.{◌-◌, ◌^◌}
use Rattle.rule_completion.specs.Numbering.{own_count}
use Rattle.rule_completion.proofs.Counted.{one_more, all_counted}
use Rattle.rule_completion.proofs.numbering.+count_added.Goals as goal

pub loop-inner-preserved : goal.loop-inner-preserved
loop-inner-preserved t c =
    one_more (own_count c.args.tree.now) (2 ^ 32 - 1) c.loop-inner.found c.count_added.result c.saturating_add-found.result c.as_slice-inner-items.result.now c.loop-inner.inner-index c.inner-item.result
    c.loop-inner-test.true c.inner-item.is c.loop-inner.invariant c.count_added.ensures c.saturating_add-found.ensures

pub returns : goal.returns
returns t c =
    all_counted c.args.tree.now (2 ^ 32 - 1) c.loop-inner.found c.loop-inner.inner-index c.as_slice-inner-items.result.now c.as_slice-inner-items.ensures c.loop-inner-test.false c.loop-inner.invariant
