use Rattle.std.proofs.Common.{arith}
use Rattle.import_order.proofs.Building.{built_none, built_more, built_within}
use Rattle.base_tests.proofs.orders.chain.Goals as goal

pub loop-number-init : goal.loop-number-init
loop-number-init c = built_none _ _ c.new-graph.ensures.items

pub loop-number-preserved : goal.loop-number-preserved
loop-number-preserved c = built_more _ _ _ _ _ _ c.loop-number.invariant c.in_ok-push.ensures.items c.from_vec.ensures c.in_ok-below.ensures

pub returns : goal.returns
returns c = built_within _ _ _ c.loop-number.invariant (omega arith)
