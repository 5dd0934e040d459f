-- Each step of ordinary rewriting has a site at which it fires.
use Rattle.std.proofs.Common.{◌≡◌, Option, Some, None, refl, sym, subst, ◌∙◌}
use Rattle.std.specs.Prelude.{IsSomeAnd, Contains}
use Rattle.rule_terms.specs.declared.plain.Plain.{Plain}
use Rattle.rule_terms.specs.declared.rule.Rule.{Rule}
use Rattle.rule_terms.specs.Substitution.{Subst}
use Rattle.rule_terms.specs.Fill.{fill}
use Rattle.rule_terms.specs.Language.{Language}
use Rattle.rule_terms.specs.Rewriting.{Alike, IsFilled, Step}
use Rattle.rule_terms.specs.Sound.{IsSound}
use Rattle.live_config.specs.Configuration.{Configuration, plain}
use Rattle.live_config.specs.Fits.{Fits}
use Rattle.live_config.specs.Steps.{SubstAlike, HasSite}
use Rattle.live_config.proofs.FiringLaws.{firing_is_step}
use Rattle.site_laws.proofs.SameFilled.{defined_some}
use Rattle.site_laws.proofs.Matches.{matches_have_sites}
use Rattle.step_laws.specs.Laws.{EachStepHasASite}
use Rattle.step_laws.proofs.AlikeLaws.{alike_symmetric, alike_transitive}
use Rattle.step_laws.proofs.FilledAlike.{fill_alike}
use Rattle.step_laws.proofs.SitesFire.{sites_fire}

-- a side that is filled to a tree like this one
record IsFilledTo (filled : Option Plain) (u : Plain) : Type 0 where
  tree : Plain
  is : filled ≡ Some tree
  like : Alike tree u

filled_to : (filled : Option Plain) (u : Plain) → IsSomeAnd filled (λ t. Alike t u) → IsFilledTo filled u
filled_to None u h = absurd h
filled_to (Some t) u h = record { tree = t; is = refl; like = h }

-- what a right side is filled to under two substitutions that are alike
same_after : (r : Rule) (s t : Subst) (u v : Plain) → SubstAlike s t → IsFilled r.right s u → IsFilled r.right t v → Alike v u
same_after r s t u v like one other =
    let a = filled_to (fill r.right s) u one in
    let b = filled_to (fill r.right t) v other in
    let f = fill_alike s t like r.right a.tree a.is in
    let same : f.cell ≡ b.tree = (let e : Some f.cell ≡ Some b.tree = sym f.is ∙ b.is in cc) in
    alike_transitive v b.tree u (alike_symmetric b.tree v b.like)
    (alike_transitive b.tree a.tree u (alike_symmetric a.tree b.tree (subst (Alike a.tree) same f.like)) a.like)

module _ (d : Language) (c : Configuration) (sound : IsSound d) (fits : Fits d c) (r : Rule) (s : Subst) (u : Plain) (contained : Contains d.rules r)
    (step : Step d.sorts (plain c) r s u) where
  has_site : HasSite d c r s u
  has_site =
      let right = filled_to (fill r.right s) u step.after in
      let m = matches_have_sites d c r s sound fits contained step.suits step.before (defined_some (fill r.right s) (right.tree, right.is)) in
      record {
        site = m.site;
        bound = m.bound;
        same = m.same;
        binds = m.binds;
        fires = λ births count different free.
            let f = sites_fire d c m.site r m.bound births sound fits m.binds count different free in
            let fired = firing_is_step d c m.site births r m.bound f.0 sound fits f.1 in
            (f.0, f.1, same_after r s m.bound u (plain f.0) m.same step.after fired.after);
      }

pub each_step_has_a_site : EachStepHasASite
each_step_has_a_site d c sound fits r s u contained step = has_site d c sound fits r s u contained step
