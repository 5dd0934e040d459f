-- The laws of sites: each match of ordinary rewriting has a site, and a site determines its rule and its substitution.
use Rattle.std.specs.Prelude.{◌≡◌, IsSome, Contains}
use Rattle.rule_terms.specs.declared.rule.Rule.{Rule}
use Rattle.rule_terms.specs.Substitution.{Subst}
use Rattle.rule_terms.specs.Fill.{fill}
use Rattle.rule_terms.specs.Language.{Language}
use Rattle.rule_terms.specs.Rewriting.{Suits, IsFilled}
use Rattle.rule_terms.specs.Sound.{IsSound}
use Rattle.live_config.specs.declared.site.Site.{Site}
use Rattle.live_config.specs.Configuration.{Configuration, plain}
use Rattle.live_config.specs.Fits.{Fits}
use Rattle.live_config.specs.Firing.{Binds}
use Rattle.live_config.specs.Steps.{SubstAlike}

-- a rule whose left side is the configuration without numbers binds at a site, under the same substitution up to the order
-- of cells in a rest
pub record HasMatch (d : Language) (c : Configuration) (r : Rule) (s : Subst) : Type 0 where
  pub site : Site
  pub bound : Subst
  pub same : SubstAlike s bound
  pub binds : Binds d c site r bound

-- each match of ordinary rewriting has a site
abbrev pub MatchesHaveSites : Type 0
MatchesHaveSites =
    (d : Language) (c : Configuration) (r : Rule) (s : Subst)
    → IsSound d
    → Fits d c
    → Contains d.rules r
    → Suits d.sorts r s
    → IsFilled r.left s (plain c)
    → IsSome (fill r.right s)
    → HasMatch d c r s

-- a site determines its rule, and what the variables stand for
abbrev pub SitesDetermine : Type 0
SitesDetermine =
    (d : Language) (c : Configuration) (site : Site) (r other : Rule) (s t : Subst)
    → IsSound d
    → Fits d c
    → Binds d c site r s
    → Binds d c site other t
    → (r ≡ other) × (s ≡ t)
