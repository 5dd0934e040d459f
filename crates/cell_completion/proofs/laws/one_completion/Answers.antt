use Rattle.cell_completion.proofs.Lawful.{has_one_completion}
use Rattle.cell_completion.proofs.laws.one_completion.Goals as goal

pub returns : goal.returns
returns c = has_one_completion
