use Rattle.draft_laws.proofs.StrictDrafts.{written_strict}
use Rattle.draft_laws.proofs.laws.written_strict.Goals as goal

pub returns : goal.returns
returns c = written_strict
