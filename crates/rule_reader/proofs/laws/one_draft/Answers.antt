use Rattle.rule_reader.proofs.Determined.{one_draft}
use Rattle.rule_reader.proofs.laws.one_draft.Goals as goal

pub returns : goal.returns
returns c = one_draft
