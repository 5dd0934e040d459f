use Rattle.rule_tokens.proofs.Deciding.{one_variable_fault}
use Rattle.rule_tokens.proofs.laws.one_variable_fault.Goals as goal

pub returns : goal.returns
returns c = one_variable_fault
