use Rattle.k_lexer.proofs.Faults.{one_tokens}
use Rattle.k_lexer.proofs.laws.one_list.Goals as goal

pub returns : goal.returns
returns c = one_tokens
