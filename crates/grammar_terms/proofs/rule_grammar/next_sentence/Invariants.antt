use Rattle.std.proofs.Common.{◌≡◌, take}
use Rattle.grammar_terms.specs.Builtins.{next_sentence}
use Rattle.grammar_terms.proofs.rule_grammar.next_sentence.Given as goal

abbrev pub invariant-loop-production : goal.invariant-loop-production
invariant-loop-production l = l.next ≡ next_sentence (take l.production-index l.prods)
