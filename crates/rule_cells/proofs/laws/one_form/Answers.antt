use Rattle.rule_cells.proofs.Single.{one_form}
use Rattle.rule_cells.proofs.laws.one_form.Goals as goal

pub returns : goal.returns
returns c = one_form
