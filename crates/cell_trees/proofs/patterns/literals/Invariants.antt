use Rattle.std.proofs.Common.{◌≡◌, map, take}
use Rattle.rule_terms.specs.declared.pattern.Pattern.{Lit}
use Rattle.cell_trees.proofs.patterns.literals.Given as goal

abbrev pub invariant-loop-value : goal.invariant-loop-value
invariant-loop-value l = l.parts.items ≡ map (λ v. Lit v) (take l.value-index l.values)
