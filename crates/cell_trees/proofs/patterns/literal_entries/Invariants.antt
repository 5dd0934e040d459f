use Rattle.std.proofs.Common.{◌≡◌, map, take}
use Rattle.rule_terms.specs.declared.pattern.Pattern.{Lit}
use Rattle.cell_trees.proofs.patterns.literal_entries.Given as goal

abbrev pub invariant-loop-key : goal.invariant-loop-key
invariant-loop-key l = l.parts.items ≡ map (λ e. (Lit e.0, Lit e.1)) (take l.key-index l.entries)
