use Rattle.std.proofs.Common.{take}
use Rattle.rule_terms.specs.Substitution.{AreOfSorts}
use Rattle.front_run.specs.Bindings.{wholes}
use Rattle.front_run.proofs.rewrite.are_of_sorts.Given as goal

abbrev pub invariant-loop-i : goal.invariant-loop-i
invariant-loop-i l = AreOfSorts l.sorts (take l.i l.variables) (wholes (take l.i l.bound))
