use Rattle.site_laws.proofs.Determined.{sites_determine}
use Rattle.site_laws.proofs.laws.sites_determine.Goals as goal

pub returns : goal.returns
returns c = sites_determine
