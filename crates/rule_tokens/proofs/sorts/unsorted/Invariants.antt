use Rattle.std.proofs.Common.{◌≡◌, drop}
use Rattle.std.specs.List.{find}
use Rattle.rule_tokens.specs.Variables.{is_unsorted}
use Rattle.rule_tokens.proofs.sorts.unsorted.Given as goal

abbrev pub invariant-loop-variable : goal.invariant-loop-variable
invariant-loop-variable l = find is_unsorted l.variables ≡ find is_unsorted (drop l.variable-index l.variables)
