use Rattle.draft_laws.proofs.ReadDrafts.{written_rule}
use Rattle.draft_laws.proofs.laws.written_rules.Goals as goal

pub returns : goal.returns
returns c = written_rule
