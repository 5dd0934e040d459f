use Rattle.live_config.proofs.FiringLaws.{firing_keeps_fit}
use Rattle.live_config.proofs.laws.firing_keeps_fit.Goals as goal

pub returns : goal.returns
returns c = firing_keeps_fit
