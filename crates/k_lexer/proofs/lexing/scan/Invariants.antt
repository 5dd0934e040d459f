use Rattle.std.proofs.Common.{length, ◌-◌, ◌≤◌}
use Rattle.k_lexer.specs.Lexing.{Reaches}
use Rattle.k_lexer.proofs.lexing.scan.Given as goal

abbrev pub invariant-loop-at : goal.invariant-loop-at
invariant-loop-at l = Reaches l.text l.found.items l.at × (l.at ≤ length l.text)

abbrev pub decreases-loop-at : goal.decreases-loop-at
decreases-loop-at l = length l.text - l.at
