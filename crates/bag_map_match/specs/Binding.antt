-- What is told of a site: what its rule binds there.
use Rattle.std.specs.Prelude.{◌≡◌, ◌↔◌, ℕ, Option, Some, None}
use Rattle.std.specs.List.{list_any}
use Rattle.rule_terms.specs.declared.rule.Rule.{Rule}
use Rattle.rule_terms.specs.Language.{Language, rule_at}
use Rattle.rule_terms.specs.Spots.{Spot, spots}
use Rattle.rule_terms.specs.Substitution.{Subst, AreOfSorts}
use Rattle.live_config.specs.declared.site.Site.{Site}
use Rattle.live_config.specs.Configuration.{Configuration}
use Rattle.live_config.specs.Firing.{Binds}
use Rattle.live_config.specs.Sites.{IsSite}
use Rattle.leaf_match.specs.Bindings.{Partial, Agrees, AreSuited, is_bound}
use Rattle.leaf_match.specs.Contents.{leaf_mentions}
use Rattle.right_sides.specs.Bound.{IsSeenBy}
use Rattle.bag_map_match.specs.Matching.{AllHold}

-- The left cells of a rule hold at a site just where what is bound agrees, and just the variables of leaves are bound.
pub record IsMatch (d : Language) (c : Configuration) (site : Site) (r : Rule) (p : Partial) : Type 0 where
  pub suited : AreSuited d.sorts r.vars p
  pub tells : (s : Subst) → AreOfSorts d.sorts r.vars s → (AllHold c (spots r.left) site.cells (spots r.left) site.cells site.keys s ↔ Agrees p s)
  pub reaches : (x : ℕ) → is_bound p x ≡ list_any (λ (q : Spot). leaf_mentions x q.body) (spots r.left)

-- what the left cells of a rule bind at a site, or that they hold there under no substitution
abbrev pub IsLeftBound : Language → Configuration → Site → Rule → Option Partial → Type 0
IsLeftBound d c site r None = (s : Subst) → AreOfSorts d.sorts r.vars s → AllHold c (spots r.left) site.cells (spots r.left) site.cells site.keys s → ⊥
IsLeftBound d c site r (Some p) = IsMatch d c site r p

-- A site binds, and its substitution gives each variable the value that is bound, and no value where none is; or it doesn't bind.
abbrev pub IsBinding : Language → Configuration → Site → Option Partial → Type 0
IsBinding d c site None = IsSite d c site → ⊥
IsBinding d c site (Some p) = (r : Rule) × (s : Subst) × Binds d c site r s × IsSeenBy p s
