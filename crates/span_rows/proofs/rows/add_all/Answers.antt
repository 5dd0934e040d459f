use Rattle.std.proofs.Common.{ap, length}
use Rattle.span_rows.proofs.Adding.{adds_next, longer, unchanged}
use Rattle.span_rows.proofs.rows.add_all.Goals as goal

pub loop-row-preserved : goal.loop-row-preserved
loop-row-preserved c = record {
  added = adds_next _ _ _ _ _ c.loop-row.invariant.added c.in_ok-is_more.ensures.ok;
  more = longer _ _ _ c.loop-row.is_more c.in_ok-is_more.field-0 c.loop-row.invariant.more c.in_ok-is_more.ensures.more (λ is. ap length (c.loop-row.invariant.same is)) (λ is. ap length (c.in_ok-is_more.ensures.same is));
  same = unchanged _ _ _ c.loop-row.is_more c.in_ok-is_more.field-0 c.loop-row.invariant.same c.in_ok-is_more.ensures.same;
}
