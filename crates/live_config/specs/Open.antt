-- Opens the definitions of live configurations at closed ones, so that a proof computes there: a proof elsewhere writes
-- `unfolding open_live`.
use Rattle.rule_terms.specs.Open.{open_rules}
use Rattle.live_config.specs.Configuration.{tree, way_up}
use Rattle.rule_terms.specs.Spots.{spots_in, row_spots}

unfoldable pub open_live : Unit {0}
unfolding open_rules tree way_up spots_in row_spots
open_live = tt
