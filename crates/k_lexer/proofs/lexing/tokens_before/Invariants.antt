use Rattle.std.proofs.Common.{length, ◌-◌, ◌≤◌}
use Rattle.k_lexer.specs.Lexing.{Reaches}
use Rattle.k_lexer.proofs.lexing.tokens_before.Given as goal

abbrev pub invariant-loop-from : goal.invariant-loop-from
invariant-loop-from l = Reaches l.text l.found.items l.from × (l.from ≤ length l.text) × (l.from ≤ l.at)

abbrev pub decreases-loop-from : goal.decreases-loop-from
decreases-loop-from l = length l.text - l.from
