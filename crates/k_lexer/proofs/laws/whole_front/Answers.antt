use Rattle.k_lexer.proofs.Before.{whole_front}
use Rattle.k_lexer.proofs.laws.whole_front.Goals as goal

pub returns : goal.returns
returns c = whole_front
