use Rattle.rule_cells.proofs.Single.{form_or_place}
use Rattle.rule_cells.proofs.laws.form_or_place.Goals as goal

pub returns : goal.returns
returns c = form_or_place
