use Rattle.cell_forms.proofs.Single.{one_form}
use Rattle.cell_forms.proofs.laws.one_form.Goals as goal

pub returns : goal.returns
returns c = one_form
