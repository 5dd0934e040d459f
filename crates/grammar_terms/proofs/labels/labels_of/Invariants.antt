use Rattle.std.proofs.Common.{◌≡◌, map, take}
use Rattle.grammar_terms.specs.Grammar.{label_of}
use Rattle.grammar_terms.proofs.labels.labels_of.Given as goal

abbrev pub invariant-loop-production : goal.invariant-loop-production
invariant-loop-production l = l.labels.items ≡ map (label_of l.names) (take l.production-index l.prods)
