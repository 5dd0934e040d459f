use Rattle.strictness.proofs.Outcomes.{not_both as the_law}
use Rattle.strictness.proofs.laws.not_both.Goals as goal

pub returns : goal.returns
returns c = the_law
