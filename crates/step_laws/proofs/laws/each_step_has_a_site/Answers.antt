use Rattle.step_laws.proofs.StepSites.{each_step_has_a_site}
use Rattle.step_laws.proofs.laws.each_step_has_a_site.Goals as goal

pub returns : goal.returns
returns c = each_step_has_a_site
