-- The sites at which some rule binds, and their order.
use Rattle.std.specs.Prelude.{◌≡◌, List, IsTrue, ◌↔◌, Contains}
use Rattle.std.specs.declared.cmp.Ordering.{Ordering}
use Rattle.std.specs.declared.cmp.Ordering.TheVariants.{Less}
use Rattle.std.specs.Ordering.{nat_cmp, ordering_then, is_le}
use Rattle.std.specs.Cmp.Lexicographic.{slice_cmp}
use Rattle.std.specs.List.{AllPairs}
use Rattle.k_terms.specs.Value.{value_cmp}
use Rattle.rule_terms.specs.declared.rule.Rule.{Rule}
use Rattle.rule_terms.specs.Substitution.{Subst}
use Rattle.rule_terms.specs.Language.{Language}
use Rattle.live_config.specs.declared.site.Site.{Site}
use Rattle.live_config.specs.Configuration.{Configuration}
use Rattle.live_config.specs.Firing.{Binds}

-- by rule, then by cells, then by keys, lists lexicographically
abbrev pub site_cmp : Site → Site → Ordering
site_cmp a b = ordering_then (nat_cmp a.rule b.rule) (ordering_then (slice_cmp nat_cmp a.cells b.cells) (slice_cmp value_cmp a.keys b.keys))

-- the site binds
abbrev pub IsSite : Language → Configuration → Site → Type 0
IsSite d c site = (r : Rule) × (s : Subst) × Binds d c site r s

-- no site binds
abbrev pub HasNoSite : Language → Configuration → Type 0
HasNoSite d c = (site : Site) → ¬ IsSite d c site

-- the least site that binds, and the least one after another
pub record IsLeastSite (d : Language) (c : Configuration) (site : Site) : Type 0 where
  pub binds : IsSite d c site
  pub least : (other : Site) → IsSite d c other → IsTrue (is_le (site_cmp site other))

pub record IsNextSite (d : Language) (c : Configuration) (before site : Site) : Type 0 where
  pub binds : IsSite d c site
  pub later : site_cmp before site ≡ Less
  pub least : (other : Site) → IsSite d c other → site_cmp before other ≡ Less → IsTrue (is_le (site_cmp site other))

-- all sites that bind, in their order, each once
pub record AreSites (d : Language) (c : Configuration) (sites : List Site) : Type 0 where
  pub rising : AllPairs (λ a b. site_cmp a b ≡ Less) sites
  pub all : (site : Site) → Contains sites site ↔ IsSite d c site
