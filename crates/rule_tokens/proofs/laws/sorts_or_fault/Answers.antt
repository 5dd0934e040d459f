use Rattle.rule_tokens.proofs.Deciding.{sorts_or_fault}
use Rattle.rule_tokens.proofs.laws.sorts_or_fault.Goals as goal

pub returns : goal.returns
returns c = sorts_or_fault
