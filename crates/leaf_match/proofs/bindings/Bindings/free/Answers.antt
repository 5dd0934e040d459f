use Rattle.std.proofs.Common.{take}
use Rattle.leaf_match.proofs.Leaves.{free_more}
use Rattle.leaf_match.proofs.Rising.{free_rising}
use Rattle.leaf_match.proofs.bindings.Bindings.free.Goals as goal

pub loop-sort-preserved : goal.loop-sort-preserved
loop-sort-preserved c = free_more c.loop-sort.bounds.items c.push.new.self.items c.args.vars.now c.loop-sort._sort-index c.loop-sort-test.true c.in_ok-push.ensures.items c.loop-sort.invariant

pub invariant_of-result : goal.invariant_of-result
invariant_of-result c = free_rising c.loop-sort.bounds.items (take c.loop-sort._sort-index c.args.vars.now) c.loop-sort.invariant
