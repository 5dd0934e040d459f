use Rattle.std.proofs.Common.{length, ◌-◌}
use Rattle.k_lexer.proofs.Tails.{IsRun}
use Rattle.k_lexer.proofs.front.run_size.Given as goal

abbrev pub invariant-run : goal.invariant-run
invariant-run l = IsRun l.kind l.rest l.at

abbrev pub decreases-run : goal.decreases-run
decreases-run l = length l.rest - l.at
