use Rattle.std.proofs.Common.{◌≡◌}
use Rattle.strictness.specs.Drafts.{others}
use Rattle.strictness.proofs.drafts.others.Given as goal

abbrev pub invariant-loop-variable : goal.invariant-loop-variable
invariant-loop-variable l = l.parts.items ≡ others l.variable l.place
