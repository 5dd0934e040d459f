use Rattle.step_laws.proofs.Stuck.{stuck_without_sites}
use Rattle.step_laws.proofs.laws.stuck_without_sites.Goals as goal

pub returns : goal.returns
returns c = stuck_without_sites
