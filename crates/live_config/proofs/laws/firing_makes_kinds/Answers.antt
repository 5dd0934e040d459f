use Rattle.live_config.proofs.MakesKinds.{firing_makes_kinds}
use Rattle.live_config.proofs.laws.firing_makes_kinds.Goals as goal

pub returns : goal.returns
returns c = firing_makes_kinds
