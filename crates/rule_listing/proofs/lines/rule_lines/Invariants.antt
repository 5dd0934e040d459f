use Rattle.std.proofs.Common.{◌≡◌, ◌++◌, ◌+◌, drop, map}
use Rattle.std.specs.Arc.{arc_value}
use Rattle.rule_listing.specs.Lines.{lines_from}
use Rattle.rule_listing.proofs.lines.rule_lines.Given as goal

abbrev pub invariant-loop-rule : goal.invariant-loop-rule
invariant-loop-rule l =
    (l.lines.items ++ lines_from l.fn.grammar l.fn.cells (l.number + 1) (drop l.rule-index (map arc_value l.rules)) ≡ lines_from l.fn.grammar l.fn.cells 1 (map arc_value l.rules))
    × (l.number ≡ l.rule-index)
