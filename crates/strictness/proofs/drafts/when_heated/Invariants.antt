use Rattle.std.proofs.Common.{◌≡◌, ◌-◌, ◌∷◌, map}
use Rattle.std.specs.List.{range_with_len}
use Rattle.k_terms.specs.Sorts.{sort_kresult}
use Rattle.rule_terms.specs.declared.rule.Cond.TheVariants.{IsSort, NotSort}
use Rattle.strictness.proofs.drafts.when_heated.Given as goal

abbrev pub invariant-loop-earlier : goal.invariant-loop-earlier
invariant-loop-earlier l = l.when.items ≡ NotSort (l.place - 1) sort_kresult ∷ map (λ x. IsSort x sort_kresult) (range_with_len 0 l.earlier)
