use Rattle.cell_contents.proofs.Single.{declare_one}
use Rattle.cell_contents.proofs.laws.declare_one.Goals as goal

pub returns : goal.returns
returns c = declare_one
