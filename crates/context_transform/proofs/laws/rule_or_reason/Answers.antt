use Rattle.context_transform.proofs.Reasons.{has_rule_or_reason}
use Rattle.context_transform.proofs.laws.rule_or_reason.Goals as goal

pub returns : goal.returns
returns c = has_rule_or_reason
