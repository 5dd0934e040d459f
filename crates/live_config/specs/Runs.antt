-- A log of firings as a run: the rule and the substitution of each entry.
use Rattle.std.specs.Prelude.{◌≡◌, List, [], ◌∷◌}
use Rattle.rule_terms.specs.declared.rule.Rule.{Rule}
use Rattle.rule_terms.specs.Substitution.{Subst}
use Rattle.rule_terms.specs.Language.{Language}
use Rattle.rule_terms.specs.Rewriting.{Run}
use Rattle.live_config.specs.declared.site.Fired.{Fired}
use Rattle.live_config.specs.Configuration.{Configuration, plain}
use Rattle.live_config.specs.Firing.{Fires}

-- The entries, fired one after the other, each by its rule and under its substitution, lead from one configuration to
-- another.
abbrev pub LeadsBy : Language → Configuration → List Fired → List (Rule × Subst) → Configuration → Type 0
LeadsBy d c [] [] after = c ≡ after
LeadsBy d c [] (_ ∷ _) after = ⊥
LeadsBy d c (_ ∷ _) [] after = ⊥
LeadsBy d c (entry ∷ entries) (p ∷ ps) after =
    (mid : Configuration) × Fires d c entry.site entry.births p.0 p.1 mid × LeadsBy d mid entries ps after

-- The log is a run: the entries lead from one configuration to another, and the steps of their rules under their
-- substitutions, in order, are ordinary rewriting between the same without numbers.
pub record IsLog (d : Language) (c : Configuration) (entries : List Fired) (after : Configuration) : Type 0 where
  pub instances : List (Rule × Subst)
  pub fires : LeadsBy d c entries instances after
  pub run : Run d.sorts (plain c) instances (plain after)
