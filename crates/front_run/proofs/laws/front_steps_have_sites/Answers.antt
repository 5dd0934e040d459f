use Rattle.front_run.proofs.Stepping.{front_steps_have_sites}
use Rattle.front_run.proofs.laws.front_steps_have_sites.Goals as goal

pub returns : goal.returns
returns c = front_steps_have_sites
