use Rattle.std.proofs.Common.{◌≡◌, ◌==◌, drop}
use Rattle.std.specs.List.{list_any}
use Rattle.rule_parts.specs.declared.terms.Occurrence.{Occurrence}
use Rattle.rule_drafts.proofs.variables.is_known.Given as goal

abbrev pub invariant-loop-var : goal.invariant-loop-var
invariant-loop-var l = list_any (λ (v : Occurrence). v.home == l.home) l.vars ≡ list_any (λ (v : Occurrence). v.home == l.home) (drop l.var-index l.vars)
