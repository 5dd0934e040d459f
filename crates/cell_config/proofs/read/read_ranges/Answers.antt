use Rattle.cell_config.proofs.Placing.{part_stands}
use Rattle.cell_config.proofs.Outcomes.{goes_through, ranges_more}
use Rattle.cell_config.proofs.read.read_ranges.Goals as goal

pub read_one-requires-clause-stand : goal.read_one-requires-clause-stand
read_one-requires-clause-stand c = (part_stands c.args.text.now c.args.tokens.now c.between-base.result.now _ _ c.requires.tokens c.between-base.ensures).0

pub read_one-requires-clause-whole : goal.read_one-requires-clause-whole
read_one-requires-clause-whole c = (part_stands c.args.text.now c.args.tokens.now c.between-base.result.now _ _ c.requires.tokens c.between-base.ensures).1

pub loop-range-preserved : goal.loop-range-preserved
loop-range-preserved c = record {
  divided =
      ranges_more c.args.grammar.now c.args.text.now c.args.tokens.now c.args.names.now c.loop-range.names c.read_one.new.names c.args.ranges.now c.loop-range.range-index (0, 0)
      c.between-base.result.now c.loop-range.divisions c.push.new.self c.in_ok-division.division c.loop-range-test.true c.between-base.ensures c.loop-range.invariant.divided
      c.in_ok-division.ensures.ok c.in_ok-push.ensures.ok;
  goes = goes_through c.args.names.now c.loop-range.names c.read_one.new.names c.loop-range.invariant.goes c.in_ok-division.ensures.names;
}
