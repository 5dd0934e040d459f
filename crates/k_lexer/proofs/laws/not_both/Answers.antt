use Rattle.k_lexer.proofs.Faults.{tokens_or_fault}
use Rattle.k_lexer.proofs.laws.not_both.Goals as goal

pub returns : goal.returns
returns c = tokens_or_fault
