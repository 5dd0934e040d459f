use Rattle.rule_tokens.proofs.Splitting.{one_rule_split}
use Rattle.rule_tokens.proofs.laws.one_rule_split.Goals as goal

pub returns : goal.returns
returns c = one_rule_split
