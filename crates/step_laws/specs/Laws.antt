-- The laws of sites and steps: a site fires with any births that are free, each step of ordinary rewriting has a site at which
-- it fires, and no rule matches just where there is no site.
use Rattle.std.specs.Prelude.{◌≡◌, ℕ, List, length, IsTrue}
use Rattle.std.specs.List.{list_all}
use Rattle.rule_terms.specs.declared.rule.Rule.{Rule}
use Rattle.rule_terms.specs.Numbers.{all_different}
use Rattle.rule_terms.specs.Spots.{new_spots}
use Rattle.rule_terms.specs.Substitution.{Subst}
use Rattle.rule_terms.specs.Language.{Language}
use Rattle.rule_terms.specs.Rewriting.{IsStuck}
use Rattle.rule_terms.specs.Sound.{IsSound}
use Rattle.live_config.specs.declared.site.Site.{Site}
use Rattle.live_config.specs.Configuration.{Configuration, plain}
use Rattle.live_config.specs.Fits.{Fits}
use Rattle.live_config.specs.Firing.{Binds, Fires, is_free}
use Rattle.live_config.specs.Sites.{HasNoSite}
use Rattle.live_config.specs.Steps.{StepsHaveSites}

-- a site at which a rule binds fires with any births that are free
abbrev pub SitesFire : Type 0
SitesFire =
    (d : Language) (c : Configuration) (site : Site) (r : Rule) (s : Subst) (births : List ℕ)
    → IsSound d
    → Fits d c
    → Binds d c site r s
    → length births ≡ length (new_spots r)
    → IsTrue (all_different births)
    → IsTrue (list_all (is_free c) births)
    → (after : Configuration) × Fires d c site births r s after

-- each step of ordinary rewriting has a site at which it fires
abbrev pub EachStepHasASite : Type 0
EachStepHasASite = (d : Language) (c : Configuration) → IsSound d → Fits d c → StepsHaveSites d c

-- no rule matches just where there is no site
abbrev pub StuckWithoutSites : Type 0
StuckWithoutSites =
    (d : Language) (c : Configuration) → IsSound d → Fits d c → (HasNoSite d c → IsStuck d (plain c)) × (IsStuck d (plain c) → HasNoSite d c)
