use Rattle.std.proofs.Common.{◌≡◌, ◌++◌, drop}
use Rattle.rule_parts.specs.Leaves.{leaves_from}
use Rattle.rule_parts.proofs.leaves.read_leaves.Given as goal

abbrev pub invariant-loop-at : goal.invariant-loop-at
invariant-loop-at l = l.leaves.items ++ leaves_from l.tokens l.at (drop l.at l.words) ≡ leaves_from l.tokens 0 l.words
