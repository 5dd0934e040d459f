use Rattle.std.proofs.Common.{length, ◌-◌, ◌≤◌}
use Rattle.k_lexer.specs.Laws.{IsReached}
use Rattle.k_lexer.proofs.lexing.find_stop.Given as goal

abbrev pub invariant-loop-at : goal.invariant-loop-at
invariant-loop-at l = IsReached l.text l.at × (l.at ≤ length l.text)

abbrev pub decreases-loop-at : goal.decreases-loop-at
decreases-loop-at l = length l.text - l.at
