use Rattle.live_config.proofs.FiringLaws.{firing_replaces_cells}
use Rattle.live_config.proofs.laws.firing_replaces_cells.Goals as goal

pub returns : goal.returns
returns c = firing_replaces_cells
