use Rattle.std.proofs.Common.{arith}
use Rattle.import_order.proofs.Building.{built_none, built_more, built_within}
use Rattle.base_tests.proofs.orders.graph_of.Goals as goal

pub loop-list-init : goal.loop-list-init
loop-list-init c = built_none _ _ c.new-graph.ensures.items

pub loop-list-preserved : goal.loop-list-preserved
loop-list-preserved c = built_more _ _ _ _ _ _ c.loop-list.invariant c.in_ok-push.ensures.items c.from_vec.ensures c.in_ok-below.ensures

pub returns : goal.returns
returns c = built_within _ _ _ c.loop-list.invariant (omega arith)
