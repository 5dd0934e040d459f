use Rattle.std.proofs.Common.{◌≡◌, ◌++◌, drop}
use Rattle.rule_parts.specs.Terms.{all_patterns}
use Rattle.rule_parts.proofs.patterns.+patterning.Given as goal

abbrev pub invariant-patterns_of-loop-index : goal.invariant-patterns_of-loop-index
invariant-patterns_of-loop-index l =
    l.parts.items ++ all_patterns l.grammar l.leaves l.vars l.is_list l.sorts l.index (drop l.index l.shapes)
    ≡ all_patterns l.grammar l.leaves l.vars l.is_list l.sorts 0 l.shapes
