use Rattle.std.proofs.Common.{refl}
use Rattle.import_order.proofs.Members.{has_at}
use Rattle.import_order.proofs.Sequences.{cycle_of_root, order_none, order_more}
use Rattle.import_order.proofs.orders.order.Goals as goal

pub loop-root-init : goal.loop-root-init
loop-root-init c = record {
  walking = c.in_ok-walk.ensures.walk;
  empty = c.in_ok-walk.ensures.frames;
  sorted = order_none c.args.graph.now c.in_ok-walk.walk.order.items c.in_ok-walk.ensures.order;
}

pub visit-requires-clause-root : goal.visit-requires-clause-root
visit-requires-clause-root c = c.requires.roots _ (has_at c.args.roots.now c.loop-root.root-index 0 c.loop-root-test.true)

pub loop-root-preserved : goal.loop-root-preserved
loop-root-preserved c = record {
  walking = c.in_ok-visit.ensures.walking c.if-not-branch.false;
  empty = c.in_ok-visit.ensures.frames c.if-not-branch.false;
  sorted =
      order_more c.args.graph.now c.args.roots.now c.loop-root.root-index _ c.loop-root.walk.order.items c.visit.new.walk.order.items c.loop-root-test.true refl c.loop-root.invariant.sorted
      (c.in_ok-visit.ensures.visited c.if-not-branch.false);
}

pub returns-then-not-branch : goal.returns-then-not-branch
returns-then-not-branch c =
    cycle_of_root c.args.graph.now c.args.roots.now _ (has_at c.args.roots.now c.loop-root.root-index 0 c.loop-root-test.true) (c.in_ok-visit.ensures.cycle c.if-not-branch.true)
