use Rattle.sorted_grammar.proofs.Outcomes.{one_fault}
use Rattle.sorted_grammar.proofs.laws.one_fault.Goals as goal

pub returns : goal.returns
returns c = one_fault
