use Rattle.std.proofs.Common.{◌≡◌, map, take}
use Rattle.grammar_terms.proofs.sort_steps.prod_sorts.Given as goal

abbrev pub invariant-loop-production : goal.invariant-loop-production
invariant-loop-production l = l.sorts.items ≡ map (λ production. production.sort) (take l.production-index l.prods)
