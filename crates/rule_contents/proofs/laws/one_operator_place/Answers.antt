use Rattle.rule_contents.proofs.Placing.{one_operator_place}
use Rattle.rule_contents.proofs.laws.one_operator_place.Goals as goal

pub returns : goal.returns
returns c = one_operator_place
