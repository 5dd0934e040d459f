use Rattle.std.proofs.Common.{◌≡◌, map, take, drop}
use Rattle.std.specs.List.{find}
use Rattle.rule_tokens.specs.Variables.{is_unsorted, sorted_name, first_sort}
use Rattle.rule_tokens.proofs.sorts.sorts_of.Given as goal

abbrev pub invariant-loop-variable : goal.invariant-loop-variable
invariant-loop-variable l = record {
  sofar : map sorted_name l.found ≡ map first_sort (take l.variable-index l.variables);
  ahead : find is_unsorted l.variables ≡ find is_unsorted (drop l.variable-index l.variables);
}
