use Rattle.k_lexer.proofs.Faults.{one_fault}
use Rattle.k_lexer.proofs.laws.one_fault.Goals as goal

pub returns : goal.returns
returns c = one_fault
