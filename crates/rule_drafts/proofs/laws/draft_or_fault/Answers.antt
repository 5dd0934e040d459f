use Rattle.rule_drafts.proofs.Single.{draft_or_fault}
use Rattle.rule_drafts.proofs.laws.draft_or_fault.Goals as goal

pub returns : goal.returns
returns c = draft_or_fault
