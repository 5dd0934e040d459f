use Rattle.std.proofs.Common.{◌≡◌, drop}
use Rattle.std.specs.Prelude.{Some}
use Rattle.rule_terms.specs.Options.{joined}
use Rattle.rule_terms.specs.Eval.{eval_all}
use Rattle.rule_terms.specs.Substitution.{Subst}
use Rattle.right_sides.specs.Bound.{IsSeenBy}
use Rattle.right_sides.proofs.evaluation.+evaluating.Given as goal

-- the values so far, and those of the patterns that are left
abbrev pub invariant-evaluate_all-loop-pattern : goal.invariant-evaluate_all-loop-pattern
invariant-evaluate_all-loop-pattern l =
    (s : Subst) → IsSeenBy l.bindings s → eval_all l.patterns s ≡ joined (Some l.values.items) (eval_all (drop l.pattern-index l.patterns) s)
