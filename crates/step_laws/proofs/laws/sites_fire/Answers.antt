use Rattle.step_laws.proofs.SitesFire.{sites_fire}
use Rattle.step_laws.proofs.laws.sites_fire.Goals as goal

pub returns : goal.returns
returns c = sites_fire
