use Rattle.live_config.proofs.FiringLaws.{log_is_run}
use Rattle.live_config.proofs.laws.log_is_run.Goals as goal

pub returns : goal.returns
returns c = log_is_run
