use Rattle.program_tokens.proofs.Once.{one_split}
use Rattle.program_reader.proofs.Determined.{one_refusal}
use Rattle.program_reader.proofs.laws.one_refusal.Goals as goal

pub returns : goal.returns
returns c = one_refusal one_split
