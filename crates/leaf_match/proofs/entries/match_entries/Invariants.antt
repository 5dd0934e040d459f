use Rattle.std.proofs.Common.{◌≡◌, take, true}
use Rattle.std.specs.Prelude.{Some}
use Rattle.std.specs.List.{list_any}
use Rattle.rule_terms.specs.Eval.{eval_entries}
use Rattle.leaf_match.specs.Bindings.{AreSuited, Tells, Reaches}
use Rattle.leaf_match.specs.Maps.{Entries, PickedAt, mentions_entry}
use Rattle.leaf_match.proofs.entries.match_entries.Given as goal

abbrev pub invariant-loop-i : goal.invariant-loop-i
invariant-loop-i l = record {
  suited : AreSuited l.variables.sorts.now l.variables.vars.now l.bindings;
  tells : (es : Entries) → PickedAt l.entries l.places es → Tells l.variables.sorts.now l.variables.vars.now true l.initial.bindings l.bindings
      (λ s. eval_entries (take l.i l.patterns) s ≡ Some (take l.i es));
  reaches : Reaches true l.initial.bindings l.bindings (λ x. list_any (mentions_entry x) (take l.i l.patterns));
}
