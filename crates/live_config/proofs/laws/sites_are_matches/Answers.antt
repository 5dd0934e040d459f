use Rattle.live_config.proofs.FiringLaws.{sites_are_matches}
use Rattle.live_config.proofs.laws.sites_are_matches.Goals as goal

pub returns : goal.returns
returns c = sites_are_matches
