use Rattle.rule_drafts.proofs.Single.{one_fault}
use Rattle.rule_drafts.proofs.laws.one_fault.Goals as goal

pub returns : goal.returns
returns c = one_fault
