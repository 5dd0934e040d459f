use Rattle.std.proofs.Common.{◌≡◌, ◌++◌}
use Rattle.grammar_terms.specs.Builtins.{bracket_prods}
use Rattle.grammar_terms.proofs.rule_grammar.add_brackets.Given as goal

abbrev pub invariant-loop-sort : goal.invariant-loop-sort
invariant-loop-sort l = l.prods.items ≡ l.initial.prods.items ++ bracket_prods l.sentence l.group l.sort
