use Rattle.std.proofs.Common.{◌≡◌}
use Rattle.strictness.specs.Drafts.{variables}
use Rattle.strictness.proofs.drafts.variables.Given as goal

abbrev pub invariant-loop-variable : goal.invariant-loop-variable
invariant-loop-variable l = l.parts.items ≡ variables l.variable
