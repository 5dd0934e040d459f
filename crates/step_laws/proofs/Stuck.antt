-- No rule matches just where there is no site.
use Rattle.std.proofs.Common.{length}
use Rattle.rule_terms.specs.Language.{Language}
use Rattle.rule_terms.specs.Rewriting.{IsStuck}
use Rattle.rule_terms.specs.Sound.{IsSound}
use Rattle.rule_terms.specs.Spots.{new_spots}
use Rattle.live_config.specs.Configuration.{Configuration, plain}
use Rattle.live_config.specs.Fits.{Fits}
use Rattle.live_config.specs.Sites.{HasNoSite}
use Rattle.live_config.proofs.Binding.{rule_contained}
use Rattle.live_config.proofs.FiringLaws.{firing_is_step}
use Rattle.step_laws.specs.Laws.{StuckWithoutSites}
use Rattle.step_laws.proofs.Births.{has_births}
use Rattle.step_laws.proofs.SitesFire.{sites_fire}
use Rattle.step_laws.proofs.StepSites.{each_step_has_a_site}

module _ (d : Language) (c : Configuration) (sound : IsSound d) (fits : Fits d c) where
  stuck : HasNoSite d c → IsStuck d (plain c)
  stuck none r s u contained step =
      let h = each_step_has_a_site d c sound fits r s u contained step in
      none h.site (r, h.bound, h.binds)

  no_site : IsStuck d (plain c) → HasNoSite d c
  no_site none site (r, s, binds) =
      let b = has_births c (length (new_spots r)) in
      let f = sites_fire d c site r s b.births sound fits binds b.count_is b.different b.free in
      none r s (plain f.0) (rule_contained d site.rule r binds.rule) (firing_is_step d c site b.births r s f.0 sound fits f.1)

pub stuck_without_sites : StuckWithoutSites
stuck_without_sites d c sound fits = (stuck d c sound fits, no_site d c sound fits)
