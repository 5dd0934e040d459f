-- The laws of a firing.
use Rattle.std.specs.Prelude.{◌≡◌, ℕ, false, List, Option, Some, None, IsTrue, Contains, slice_get}
use Rattle.std.specs.Option.{option_map, option_and_then}
use Rattle.k_terms.specs.declared.value.Content.{Content}
use Rattle.rule_terms.specs.declared.defs.CellShape.{CellShape}
use Rattle.rule_terms.specs.declared.rule.Rule.{Rule}
use Rattle.rule_terms.specs.Substitution.{Subst}
use Rattle.rule_terms.specs.Fill.{content_of}
use Rattle.rule_terms.specs.Language.{Language}
use Rattle.rule_terms.specs.Rewriting.{IsFilled, Step}
use Rattle.rule_terms.specs.Sound.{IsSound}
use Rattle.rule_terms.specs.Spots.{Spot, spots}
use Rattle.live_config.specs.declared.cell.Cell.{Cell}
use Rattle.live_config.specs.declared.site.Site.{Site}
use Rattle.live_config.specs.declared.site.Fired.{Fired}
use Rattle.live_config.specs.Configuration.{Configuration, cell_at, plain}
use Rattle.rule_terms.specs.Kinds.{IsOfKind}
use Rattle.live_config.specs.Fits.{Fits}
use Rattle.live_config.specs.Firing.{Binds, Fires, Leads, goes, removed, right_number}
use Rattle.live_config.specs.Runs.{IsLog}

-- the cell that is put for a right cell
abbrev pub cell_of : (ℕ → Option ℕ) → Subst → Spot → Option Cell
cell_of number s p =
    option_map
    (λ content. record { kind = p.cell; parent = option_map (λ m. record { 0 = m }) (option_and_then number p.above); content = content })
    (content_of p.body s)

-- no right cell has this number
abbrev pub HasNoRightCell : Rule → List ℕ → List ℕ → ℕ → Type 0
HasNoRightCell r ns births n = (p : Spot) → Contains (spots r.right) p → ¬ (right_number r ns births p.mark ≡ Some n)

-- What stands at a number after a firing: the right cell with this number, where there is one; else nothing where the cell
-- goes; and else what stood there.
pub record StandsAfter (c : Configuration) (site : Site) (births : List ℕ) (r : Rule) (s : Subst) (after : Configuration) (n : ℕ) : Type 0 where
  pub put : (p : Spot) → Contains (spots r.right) p → right_number r site.cells births p.mark ≡ Some n → cell_at after n ≡ cell_of (right_number r site.cells births) s p
  pub gone : HasNoRightCell r site.cells births n → IsTrue (goes c (removed r site.cells) n) → cell_at after n ≡ None
  pub kept : HasNoRightCell r site.cells births n → goes c (removed r site.cells) n ≡ false → cell_at after n ≡ cell_at c n

-- each right cell has a number of its own
pub record HasOwnNumbers (r : Rule) (number : ℕ → Option ℕ) : Type 0 where
  pub given : (p : Spot) → Contains (spots r.right) p → (n : ℕ) × (number p.mark ≡ Some n)
  pub own : (p q : Spot) (n : ℕ) → Contains (spots r.right) p → Contains (spots r.right) q → number p.mark ≡ Some n → number q.mark ≡ Some n → p ≡ q

-- After a firing, each right cell stands at a number of its own, and all else is as it was but for what goes.
abbrev pub FiringReplacesCells : Type 0
FiringReplacesCells =
    (d : Language) (c : Configuration) (site : Site) (births : List ℕ) (r : Rule) (s : Subst) (after : Configuration) → IsSound d → Fits d c → Fires d c site births r s after → HasOwnNumbers r (right_number r site.cells births) × ((n : ℕ) → StandsAfter c site births r s after n)

-- each content that a right side makes is of its declared cell's kind
abbrev pub MakesKinds : Language → Rule → Subst → Type 0
MakesKinds d r s =
    (p : Spot) → Contains (spots r.right) p → (shape : CellShape) → slice_get d.cells p.cell ≡ Some shape → (content : Content) → content_of p.body s ≡ Some content → IsOfKind d.sorts shape.kind content

-- a rule that binds at a site: its left side is the configuration without numbers
abbrev pub SitesAreMatches : Type 0
SitesAreMatches =
    (d : Language) (c : Configuration) (site : Site) (r : Rule) (s : Subst) → IsSound d → Fits d c → Binds d c site r s → IsFilled r.left s (plain c)

-- a firing leads from a configuration that fits to one that fits
abbrev pub FiringKeepsFit : Type 0
FiringKeepsFit =
    (d : Language) (c : Configuration) (site : Site) (births : List ℕ) (r : Rule) (s : Subst) (after : Configuration) → IsSound d → Fits d c → Fires d c site births r s after → Fits d after

-- a firing is one step of ordinary rewriting
abbrev pub FiringIsStep : Type 0
FiringIsStep =
    (d : Language) (c : Configuration) (site : Site) (births : List ℕ) (r : Rule) (s : Subst) (after : Configuration) → IsSound d → Fits d c → Fires d c site births r s after → Step d.sorts (plain c) r s (plain after)

-- whatever fires in a configuration that fits makes contents of their kinds
abbrev pub FiringMakesKinds : Type 0
FiringMakesKinds =
    (d : Language) (c : Configuration) (site : Site) (births : List ℕ) (r : Rule) (s : Subst) (after : Configuration) → IsSound d → Fits d c → Fires d c site births r s after → MakesKinds d r s

-- a log of firings is a run of their rules and substitutions, from a configuration that fits to one that fits
abbrev pub LogIsRun : Type 0
LogIsRun =
    (d : Language) (c : Configuration) (entries : List Fired) (after : Configuration) → IsSound d → Fits d c → Leads d c entries after → Fits d after × IsLog d c entries after
