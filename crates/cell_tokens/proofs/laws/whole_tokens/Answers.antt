use Rattle.cell_tokens.proofs.Whole.{whole_tokens}
use Rattle.cell_tokens.proofs.laws.whole_tokens.Goals as goal

pub returns : goal.returns
returns c = whole_tokens
