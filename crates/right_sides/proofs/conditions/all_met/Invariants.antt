use Rattle.std.proofs.Common.{◌↔◌, drop}
use Rattle.std.specs.List.{AllByRecursion}
use Rattle.rule_terms.specs.Eval.{IsMet}
use Rattle.rule_terms.specs.Substitution.{Subst}
use Rattle.right_sides.specs.Bound.{IsSeenBy}
use Rattle.right_sides.proofs.conditions.all_met.Given as goal

-- all are met where those are that are left
abbrev pub invariant-loop-condition : goal.invariant-loop-condition
invariant-loop-condition l =
    (s : Subst) → IsSeenBy l.bindings s → AllByRecursion (IsMet l.sorts s) l.conditions ↔ AllByRecursion (IsMet l.sorts s) (drop l.condition-index l.conditions)
