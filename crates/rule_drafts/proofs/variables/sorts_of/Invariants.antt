use Rattle.std.proofs.Common.{◌≡◌, take, map}
use Rattle.rule_parts.specs.declared.terms.Occurrence.{Occurrence}
use Rattle.rule_drafts.proofs.variables.sorts_of.Given as goal

abbrev pub invariant-loop-var : goal.invariant-loop-var
invariant-loop-var l = l.sorts.items ≡ map (λ (v : Occurrence). v.sort) (take l.var-index l.vars)
