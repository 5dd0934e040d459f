use Rattle.strictness.proofs.Ranges.{with_place}
use Rattle.strictness.proofs.places.with_all.Goals as goal

pub loop-index-preserved : goal.loop-index-preserved
loop-index-preserved c = with_place _ _ c.args.before.now c.loop-index.index c.in_ok-push.ensures.items c.loop-index.invariant
