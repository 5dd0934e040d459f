use Rattle.program_tokens.proofs.Once.{one_split}
use Rattle.program_reader.proofs.Determined.{one_value}
use Rattle.program_reader.proofs.laws.one_value.Goals as goal

pub returns : goal.returns
returns c = one_value one_split
