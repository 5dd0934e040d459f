use Rattle.std.proofs.Common.{◌≡◌, ◌++◌, map, take}
use Rattle.k_terms.specs.Sorts.{sort_kitem}
use Rattle.k_terms.proofs.sorts.every_step.Given as goal

abbrev pub invariant-loop-production : goal.invariant-loop-production
invariant-loop-production l = l.every.items ≡ l.steps ++ map (λ sort. (sort, sort_kitem)) (take l.production-index l.productions)
