use Rattle.sorted_grammar.proofs.Outcomes.{one_grammar}
use Rattle.sorted_grammar.proofs.laws.one_grammar.Goals as goal

pub returns : goal.returns
returns c = one_grammar
