use Rattle.k_lexer.proofs.Before.{one_before}
use Rattle.k_lexer.proofs.laws.one_front.Goals as goal

pub returns : goal.returns
returns c = one_before
