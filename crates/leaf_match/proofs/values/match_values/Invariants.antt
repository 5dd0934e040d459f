use Rattle.std.proofs.Common.{◌≡◌, take, true}
use Rattle.std.specs.Prelude.{Some}
use Rattle.std.specs.List.{list_any}
use Rattle.rule_terms.specs.Patterns.{mentions}
use Rattle.rule_terms.specs.Eval.{eval_all}
use Rattle.leaf_match.specs.Bindings.{AreSuited, Tells, Reaches}
use Rattle.leaf_match.proofs.values.match_values.Given as goal

-- so many have been matched
abbrev pub invariant-loop-i : goal.invariant-loop-i
invariant-loop-i l = record {
  suited : AreSuited l.variables.sorts.now l.variables.vars.now l.bindings;
  tells : Tells l.variables.sorts.now l.variables.vars.now true l.initial.bindings l.bindings
      (λ s. eval_all (take l.i l.patterns) s ≡ Some (take l.i l.values));
  reaches : Reaches true l.initial.bindings l.bindings (λ x. list_any (mentions x) (take l.i l.patterns));
}
