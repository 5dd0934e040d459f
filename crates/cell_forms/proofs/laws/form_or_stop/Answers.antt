use Rattle.cell_forms.proofs.Single.{form_or_stop}
use Rattle.cell_forms.proofs.laws.form_or_stop.Goals as goal

pub returns : goal.returns
returns c = form_or_stop
