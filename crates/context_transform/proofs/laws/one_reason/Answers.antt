use Rattle.context_transform.proofs.Reasons.{has_one_reason}
use Rattle.context_transform.proofs.laws.one_reason.Goals as goal

pub returns : goal.returns
returns c = has_one_reason
