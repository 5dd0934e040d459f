use Rattle.std.proofs.Common.{◌≡◌, ◌++◌, map, take}
use Rattle.grammar_terms.specs.Builtins.{placed, operator_form}
use Rattle.grammar_terms.proofs.rule_grammar.add_operators.Given as goal

abbrev pub invariant-loop-op : goal.invariant-loop-op
invariant-loop-op l = l.prods.items ≡ l.initial.prods.items ++ map (λ op. placed l.sentence l.group (operator_form op)) (take l.op-index l.ops)
