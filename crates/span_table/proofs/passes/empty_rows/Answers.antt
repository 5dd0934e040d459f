use Rattle.span_table.proofs.Saturating.{seeds_sound, seeds_kept}
use Rattle.span_table.proofs.passes.empty_rows.Goals as goal

pub returns : goal.returns
returns c = record {
  seeds = seeds_kept c.args.grammar.now c.in_ok-rows.rows.items c.saturate_alone.new.rows.items c.in_ok-rows.ensures c.in_ok-saturate_alone.ensures.covers;
  near = c.in_ok-saturate_alone.ensures.covers.covers;
  sound = seeds_sound c.args.grammar.now c.in_ok-rows.rows.items c.saturate_alone.new.rows.items c.in_ok-rows.ensures c.in_ok-saturate_alone.ensures.sound;
}
