use Rattle.context_transform.proofs.Reasons.{has_one_rule}
use Rattle.context_transform.proofs.laws.one_rule.Goals as goal

pub returns : goal.returns
returns c = has_one_rule
