use Rattle.std.proofs.Common.{◌≡◌, drop}
use Rattle.std.specs.List.{find}
use Rattle.rule_tokens.specs.Variables.{is_clash}
use Rattle.rule_tokens.proofs.sorts.clash.Given as goal

abbrev pub invariant-loop-variable : goal.invariant-loop-variable
invariant-loop-variable l = find is_clash l.variables ≡ find is_clash (drop l.variable-index l.variables)
