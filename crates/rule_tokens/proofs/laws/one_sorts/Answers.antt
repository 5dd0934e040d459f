use Rattle.rule_tokens.proofs.Deciding.{one_sorts}
use Rattle.rule_tokens.proofs.laws.one_sorts.Goals as goal

pub returns : goal.returns
returns c = one_sorts
