use Rattle.std.proofs.Common.{length}
use Rattle.import_order.proofs.Building.{IsBuilt}
use Rattle.base_tests.proofs.orders.graph_of.Given as goal

abbrev pub invariant-loop-list : goal.invariant-loop-list
invariant-loop-list l = IsBuilt l.graph.items l.list-index (length l.lists)
