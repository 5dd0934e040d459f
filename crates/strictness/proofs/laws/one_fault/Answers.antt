use Rattle.strictness.proofs.Outcomes.{one_fault as the_law}
use Rattle.strictness.proofs.laws.one_fault.Goals as goal

pub returns : goal.returns
returns c = the_law
