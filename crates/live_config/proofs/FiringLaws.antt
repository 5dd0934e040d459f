-- The laws of a firing, and of a log of firings.
use Rattle.std.proofs.Common.{ℕ, List, [], ◌∷◌, subst}
use Rattle.rule_terms.specs.declared.rule.Rule.{Rule}
use Rattle.rule_terms.specs.Language.{Language}
use Rattle.rule_terms.specs.Substitution.{Subst}
use Rattle.rule_terms.specs.Rewriting.{Alike, Run}
use Rattle.rule_terms.specs.Sound.{IsSound}
use Rattle.rule_terms.proofs.Alike.{alike_self}
use Rattle.live_config.specs.declared.site.Site.{Site}
use Rattle.live_config.specs.declared.site.Fired.{Fired}
use Rattle.live_config.specs.Configuration.{Configuration, plain}
use Rattle.live_config.specs.Fits.{Fits}
use Rattle.live_config.specs.Firing.{Fires, Leads}
use Rattle.live_config.specs.Runs.{LeadsBy}
use Rattle.live_config.specs.Laws.{FiringReplacesCells, SitesAreMatches, FiringKeepsFit, FiringIsStep, LogIsRun}
use Rattle.live_config.proofs.Binding.{left_filled}
use Rattle.live_config.proofs.After.{Firing, own_numbers, stands_after}
use Rattle.live_config.proofs.KeepsFits.{fits_after, is_step}
use Rattle.live_config.proofs.MakesKinds.{firing_makes_kinds}

abbrev pub firing_of : (d : Language) (c : Configuration) (site : Site) (births : List ℕ) (r : Rule) (s : Subst) (after : Configuration) → IsSound d → Fits d c → Fires d c site births r s after → Firing
firing_of d c site births r s after sound fits fires =
    record { b = record { d = d; c = c; site = site; r = r; s = s; sound = sound; fits = fits; binds = fires.binds }; births = births; after = after; fires = fires }

pub sites_are_matches : SitesAreMatches
sites_are_matches d c site r s sound fits binds = left_filled (record { d = d; c = c; site = site; r = r; s = s; sound = sound; fits = fits; binds = binds })

pub firing_replaces_cells : FiringReplacesCells
firing_replaces_cells d c site births r s after sound fits fires =
    let f = firing_of d c site births r s after sound fits fires in
    (own_numbers f, stands_after f)

pub firing_keeps_fit : FiringKeepsFit
firing_keeps_fit d c site births r s after sound fits fires =
    fits_after (firing_of d c site births r s after sound fits fires) (firing_makes_kinds d c site births r s after sound fits fires)

pub firing_is_step : FiringIsStep
firing_is_step d c site births r s after sound fits fires =
    is_step (firing_of d c site births r s after sound fits fires) (firing_makes_kinds d c site births r s after sound fits fires)

-- ---- a log

-- a log has rules and substitutions by which it leads
pub leads_by : (d : Language) (c : Configuration) (entries : List Fired) (after : Configuration) → Leads d c entries after → (pairs : List (Rule × Subst)) × LeadsBy d c entries pairs after
leads_by d c [] after e = ([], e)
leads_by d c (entry ∷ entries) after (r, s, mid, fires, leads) =
    let rest = leads_by d mid entries after leads in
    ((r, s) ∷ rest.0, (mid, fires, rest.1))

pub leads_to_fit : (d : Language) (c : Configuration) (entries : List Fired) (pairs : List (Rule × Subst)) (after : Configuration) → IsSound d → Fits d c → LeadsBy d c entries pairs after → Fits d after × Run d.sorts (plain c) pairs (plain after)
leads_to_fit d c [] [] after sound fits e = (subst (Fits d) e fits, subst (λ x. Alike (plain c) (plain x)) e (alike_self (plain c)))
leads_to_fit d c [] (_ ∷ _) after sound fits e = absurd e
leads_to_fit d c (_ ∷ _) [] after sound fits e = absurd e
leads_to_fit d c (entry ∷ entries) (pair ∷ pairs) after sound fits (mid, fires, leads) =
    let rest = leads_to_fit d mid entries pairs after sound (firing_keeps_fit d c entry.site entry.births pair.0 pair.1 mid sound fits fires) leads in
    (rest.0, (plain mid, firing_is_step d c entry.site entry.births pair.0 pair.1 mid sound fits fires, rest.1))

pub log_is_run : LogIsRun
log_is_run d c entries after sound fits leads =
    let by = leads_by d c entries after leads in
    let to = leads_to_fit d c entries by.0 after sound fits by.1 in
    (to.0, record { instances = by.0; fires = by.1; run = to.1 })
