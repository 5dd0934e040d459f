use Rattle.rule_reader.proofs.grammar.RuleGrammar.new.Goals as goal

pub invariant_of-result : goal.invariant_of-result
invariant_of-result c = (c.in_ok-new.ensures, c.in_ok-productions.ensures, c.in_ok-new-2.ensures, c.in_ok-new-3.ensures, c.in_ok-new-4.ensures)
