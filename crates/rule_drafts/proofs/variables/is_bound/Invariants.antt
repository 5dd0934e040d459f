use Rattle.std.proofs.Common.{◌≡◌, ◌==◌, ◌&&◌, drop}
use Rattle.std.specs.List.{list_any}
use Rattle.rule_parts.specs.declared.terms.Occurrence.{Occurrence}
use Rattle.rule_drafts.proofs.variables.is_bound.Given as goal

abbrev pub invariant-loop-occurrence : goal.invariant-loop-occurrence
invariant-loop-occurrence l = list_any (λ (v : Occurrence). v.is_left && v.home == l.home) l.found ≡ list_any (λ (v : Occurrence). v.is_left && v.home == l.home) (drop l.occurrence-index l.found)
