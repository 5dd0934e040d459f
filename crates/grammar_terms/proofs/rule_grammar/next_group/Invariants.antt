use Rattle.std.proofs.Common.{◌≡◌, take}
use Rattle.grammar_terms.specs.Builtins.{next_group}
use Rattle.grammar_terms.proofs.rule_grammar.next_group.Given as goal

abbrev pub invariant-loop-production : goal.invariant-loop-production
invariant-loop-production l = l.next ≡ next_group (take l.production-index l.prods)
