use Rattle.program_tokens.proofs.Once.{one_split}
use Rattle.program_reader.proofs.Determined.{not_both}
use Rattle.program_reader.proofs.laws.not_both.Goals as goal

pub returns : goal.returns
returns c = not_both one_split
