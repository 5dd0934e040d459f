use Rattle.k_lexer.proofs.Standing.{all_stand}
use Rattle.k_lexer.proofs.laws.standing.Goals as goal

pub returns : goal.returns
returns c = all_stand
