-- What it means that each step of ordinary rewriting has a site at which it fires.
use Rattle.std.specs.Prelude.{◌≡◌, ℕ, List, [], ◌∷◌, ◌++◌, IsTrue, Contains, length}
use Rattle.std.specs.List.{list_all}
use Rattle.rule_terms.specs.declared.plain.Plain.{Plain}
use Rattle.rule_terms.specs.declared.rule.Rule.{Rule}
use Rattle.rule_terms.specs.Numbers.{all_different}
use Rattle.rule_terms.specs.Spots.{new_spots}
use Rattle.rule_terms.specs.Substitution.{Bound, Whole, Bag, Subst}
use Rattle.rule_terms.specs.Language.{Language}
use Rattle.rule_terms.specs.Rewriting.{Alike, Step}
use Rattle.live_config.specs.declared.site.Site.{Site}
use Rattle.live_config.specs.Configuration.{Configuration, plain}
use Rattle.live_config.specs.Firing.{Binds, Fires, is_free}

-- the cells of two lists pair off
abbrev pub PairOff : List Plain → List Plain → Type 0
PairOff [] us = us ≡ []
PairOff (t ∷ ts) us = (before : List Plain) × (u : Plain) × (after : List Plain) × (us ≡ before ++ u ∷ after) × Alike t u × PairOff ts (before ++ after)

-- a variable stands for the same value twice, or for cells that pair off
abbrev pub BoundAlike : Bound → Bound → Type 0
BoundAlike (Whole v) (Whole w) = v ≡ w
BoundAlike (Whole _) (Bag _) = ⊥
BoundAlike (Bag _) (Whole _) = ⊥
BoundAlike (Bag ts) (Bag us) = PairOff ts us

-- two substitutions are equal up to the order of cells in a rest
abbrev pub SubstAlike : Subst → Subst → Type 0
SubstAlike [] [] = Unit {0}
SubstAlike [] (_ ∷ _) = ⊥
SubstAlike (_ ∷ _) [] = ⊥
SubstAlike (b ∷ s) (c ∷ t) = BoundAlike b c × SubstAlike s t

-- A plain step has a site: the rule binds there under the step's substitution, up to the order of cells in a rest, and
-- fires there with any births that are free, to a configuration that is alike the one after the step.
pub record HasSite (d : Language) (c : Configuration) (r : Rule) (s : Subst) (u : Plain) : Type 0 where
  pub site : Site
  pub bound : Subst
  pub same : SubstAlike s bound
  pub binds : Binds d c site r bound
  pub fires : (births : List ℕ) → length births ≡ length (new_spots r) → IsTrue (all_different births) → IsTrue (list_all (is_free c) births)
      → (after : Configuration) × Fires d c site births r bound after × Alike (plain after) u

-- each step of a rule of the definition from the plain configuration has a site
abbrev pub StepsHaveSites : Language → Configuration → Type 0
StepsHaveSites d c = (r : Rule) (s : Subst) (u : Plain) → Contains d.rules r → Step d.sorts (plain c) r s u → HasSite d c r s u
