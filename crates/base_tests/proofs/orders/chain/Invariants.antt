use Rattle.import_order.proofs.Building.{IsBuilt}
use Rattle.base_tests.proofs.orders.chain.Given as goal

abbrev pub invariant-loop-number : goal.invariant-loop-number
invariant-loop-number l = IsBuilt l.graph.items l.number l.count
