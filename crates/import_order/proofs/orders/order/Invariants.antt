use Rattle.std.proofs.Common.{◌≡◌, [], take}
use Rattle.import_order.specs.Order.{IsOrder}
use Rattle.import_order.specs.Walking.{IsWalk}
use Rattle.import_order.proofs.orders.order.Given as goal

abbrev pub invariant-loop-root : goal.invariant-loop-root
invariant-loop-root l = record {
  walking : IsWalk l.graph l.walk;
  empty : l.walk.frames.items ≡ [];
  sorted : IsOrder l.graph (take l.root-index l.roots) l.walk.order.items;
}
