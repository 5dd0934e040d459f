use Rattle.std.proofs.Common.{◌≡◌, ◌∷◌, [], List, length}
use Rattle.rule_terms.specs.declared.rule.Rule.{Rule}
use Rattle.rule_terms.specs.Substitution.{Subst}
use Rattle.front_run.proofs.Logs.{FrontLeads}
use Rattle.front_run.proofs.runs.run_program.Given as goal

abbrev pub invariant-loop : goal.invariant-loop
invariant-loop l =
    record {
      leads : (instances : List (Rule × Subst)) × FrontLeads l.defs (l.fn.program ∷ []) l.fired.items instances l.values;
      within : length l.fired.items ≡ l.counter;
    }
