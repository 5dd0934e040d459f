use Rattle.site_laws.proofs.Matches.{matches_have_sites}
use Rattle.site_laws.proofs.laws.matches_have_sites.Goals as goal

pub returns : goal.returns
returns c = matches_have_sites
