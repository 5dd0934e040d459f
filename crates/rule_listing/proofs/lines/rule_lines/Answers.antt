use Rattle.std.proofs.Common.{◌+◌, ap}
use Rattle.std.specs.Arc.{arc_value}
use Rattle.rule_listing.proofs.Listed.{lines_kept}
use Rattle.rule_listing.proofs.lines.rule_lines.Goals as goal

pub loop-rule-preserved : goal.loop-rule-preserved
loop-rule-preserved c = (
  lines_kept arc_value c.args.grammar.now c.args.cells.now c.args.rules.now c.loop-rule.rule-index (c.loop-rule.number + 1) c.rule-item.result c.deref.result.now
      c.loop-rule.lines.items c.add_line.new.lines.items _ c.loop-rule-test.true c.rule-item.is c.deref.ensures c.loop-rule.invariant.0 c.in_ok-add_line.ensures,
  ap (λ n. n + 1) c.loop-rule.invariant.1,
)
