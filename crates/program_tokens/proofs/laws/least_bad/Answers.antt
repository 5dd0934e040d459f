use Rattle.program_tokens.proofs.Least.{least_bad}
use Rattle.program_tokens.proofs.laws.least_bad.Goals as goal

pub returns : goal.returns
returns c = least_bad
