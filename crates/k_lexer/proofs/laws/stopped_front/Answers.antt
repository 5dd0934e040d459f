use Rattle.k_lexer.proofs.Before.{stopped_front}
use Rattle.k_lexer.proofs.laws.stopped_front.Goals as goal

pub returns : goal.returns
returns c = stopped_front
