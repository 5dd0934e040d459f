use Rattle.std.proofs.Common.{◌≡◌, drop}
use Rattle.std.specs.Prelude.{Some}
use Rattle.rule_terms.specs.Options.{joined}
use Rattle.rule_terms.specs.Eval.{eval_entries}
use Rattle.rule_terms.specs.Substitution.{Subst}
use Rattle.right_sides.specs.Bound.{IsSeenBy}
use Rattle.right_sides.proofs.evaluation.evaluate_entries.Given as goal

-- the entries so far, and those that are left
abbrev pub invariant-loop-entry : goal.invariant-loop-entry
invariant-loop-entry l =
    (s : Subst) → IsSeenBy l.bindings s → eval_entries l.entries s ≡ joined (Some l.values.items) (eval_entries (drop l.entry-index l.entries) s)
