use Rattle.rule_drafts.proofs.Single.{one_draft}
use Rattle.rule_drafts.proofs.laws.one_draft.Goals as goal

pub returns : goal.returns
returns c = one_draft
