use Rattle.program_tokens.proofs.Once.{one_split}
use Rattle.program_tokens.proofs.laws.one_split.Goals as goal

pub returns : goal.returns
returns c = one_split
