use Rattle.import_order.proofs.Sequences.{order_one}
use Rattle.import_order.proofs.orders.closure.Goals as goal

pub returns : goal.returns
returns c = order_one c.args.graph.now c.args.root c.in-Some.order.items (rw c.in-Some.is at c.in_ok-order.ensures)
