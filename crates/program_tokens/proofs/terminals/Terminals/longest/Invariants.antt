use Rattle.std.proofs.Common.{◌≡◌, ◌≤◌}
use Rattle.program_tokens.specs.Terminals.{longest}
use Rattle.program_tokens.proofs.terminals.Terminals.longest.Given as goal

abbrev pub invariant-loop-size : goal.invariant-loop-size
invariant-loop-size l = (longest l.self l.rest l.fn.most ≡ longest l.self l.rest l.size) × (l.size ≤ l.fn.most)

abbrev pub decreases-loop-size : goal.decreases-loop-size
decreases-loop-size l = l.size
