use Rattle.std.proofs.Common.{◌≡◌, ◌++◌, replicate}
use Rattle.k_terms.specs.Sorts.{sort_bag}
use Rattle.rule_completion.proofs.rule.vars_of.Given as goal

abbrev pub invariant-loop : goal.invariant-loop
invariant-loop l = l.all.items ≡ l.vars ++ replicate l.counter sort_bag
