use Rattle.cell_tokens.proofs.Splitting.{one_cell_split}
use Rattle.cell_tokens.proofs.laws.one_cell_split.Goals as goal

pub returns : goal.returns
returns c = one_cell_split
