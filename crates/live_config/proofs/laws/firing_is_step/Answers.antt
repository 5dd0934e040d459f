use Rattle.live_config.proofs.FiringLaws.{firing_is_step}
use Rattle.live_config.proofs.laws.firing_is_step.Goals as goal

pub returns : goal.returns
returns c = firing_is_step
