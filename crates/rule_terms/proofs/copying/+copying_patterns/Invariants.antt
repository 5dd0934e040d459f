use Rattle.std.proofs.Common.{◌≡◌, take}
use Rattle.rule_terms.proofs.copying.+copying_patterns.Given as goal

abbrev pub invariant-copy_patterns-loop-pattern : goal.invariant-copy_patterns-loop-pattern
invariant-copy_patterns-loop-pattern l = l.copies.items ≡ take l.pattern-index l.patterns
