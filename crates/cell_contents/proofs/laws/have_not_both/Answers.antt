use Rattle.cell_contents.proofs.Single.{have_not_both}
use Rattle.cell_contents.proofs.laws.have_not_both.Goals as goal

pub returns : goal.returns
returns c = have_not_both
