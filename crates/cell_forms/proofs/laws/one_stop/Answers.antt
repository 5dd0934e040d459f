use Rattle.cell_forms.proofs.Single.{one_stop}
use Rattle.cell_forms.proofs.laws.one_stop.Goals as goal

pub returns : goal.returns
returns c = one_stop
