use Rattle.rule_cells.proofs.Single.{one_place}
use Rattle.rule_cells.proofs.laws.one_place.Goals as goal

pub returns : goal.returns
returns c = one_place
