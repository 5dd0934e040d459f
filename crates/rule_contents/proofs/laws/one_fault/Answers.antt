use Rattle.rule_contents.proofs.Asking.{one_fault}
use Rattle.rule_contents.proofs.laws.one_fault.Goals as goal

pub returns : goal.returns
returns c = one_fault
