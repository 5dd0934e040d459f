use Rattle.std.proofs.Common.{length, ◌-◌}
use Rattle.k_lexer.specs.Fronts.{IsPart}
use Rattle.k_lexer.proofs.front.string_size.Given as goal

abbrev pub invariant-parts : goal.invariant-parts
invariant-parts l = IsPart l.rest l.at

abbrev pub decreases-parts : goal.decreases-parts
decreases-parts l = length l.rest - l.at
