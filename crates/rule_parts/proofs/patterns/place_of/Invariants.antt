use Rattle.std.proofs.Common.{◌≡◌, ◌==◌, drop}
use Rattle.std.specs.List.{position_from}
use Rattle.rule_parts.specs.declared.terms.Occurrence.{Occurrence}
use Rattle.rule_parts.proofs.patterns.place_of.Given as goal

abbrev pub invariant-loop-place : goal.invariant-loop-place
invariant-loop-place l = position_from (λ (v : Occurrence). v.home == l.home) 0 l.vars ≡ position_from (λ (v : Occurrence). v.home == l.home) l.place (drop l.place l.vars)
