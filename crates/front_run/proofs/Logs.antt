-- A log of rewritings at the front: its entries fire, and its steps are a plain run.
use Rattle.std.proofs.Common.{◌≡◌, ℕ, List, [], ◌∷◌, ◌++◌, refl, sym, ap, subst}
use Rattle.std.specs.Prelude.{Some}
use Rattle.std.specs.List.{AllByRecursion}
use Rattle.k_terms.specs.declared.value.Value.{Value}
use Rattle.rule_terms.specs.declared.rule.Rule.{Rule}
use Rattle.rule_terms.specs.Substitution.{Subst}
use Rattle.rule_terms.specs.Language.{Language, rule_at}
use Rattle.rule_terms.specs.Rewriting.{Alike, Run}
use Rattle.rule_terms.proofs.Alike.{alike_self}
use Rattle.live_config.specs.declared.site.Fired.{Fired}
use Rattle.live_config.specs.Configuration.{plain}
use Rattle.live_config.specs.Firing.{Fires}
use Rattle.live_config.specs.Runs.{LeadsBy, IsLog}
use Rattle.front_run.specs.Front.{one_cell, front_entry, Rewrites}
use Rattle.front_run.proofs.Firing.{front_fires}
use Rattle.front_run.proofs.Stepping.{front_step}

-- each entry is that of a rule that rewrites the sequence before it
abbrev pub FrontLeads : Language → List Value → List Fired → List (Rule × Subst) → List Value → Type 0
FrontLeads d values [] [] new = values ≡ new
FrontLeads d values [] (_ ∷ _) new = ⊥
FrontLeads d values (_ ∷ _) [] new = ⊥
FrontLeads d values (entry ∷ entries) (p ∷ ps) new =
    (number : ℕ) × (mid : List Value) × (entry ≡ front_entry number) × (rule_at d number ≡ Some p.0) × Rewrites d.sorts p.0 p.1 values mid × FrontLeads d mid entries ps new

-- one more at the end
pub front_more : (d : Language) (values mid new : List Value) (entries : List Fired) (ps : List (Rule × Subst)) (number : ℕ) (r : Rule) (s : Subst)
    → FrontLeads d values entries ps mid → rule_at d number ≡ Some r → Rewrites d.sorts r s mid new → FrontLeads d values (entries ++ front_entry number ∷ []) (ps ++ (r, s) ∷ []) new
front_more d values mid new [] [] number r s leads is rewrites =
    (number, new, refl, is, subst (λ vs. Rewrites d.sorts r s vs new) (sym leads) rewrites, refl)
front_more d values mid new [] (p ∷ ps) number r s leads is rewrites = absurd leads
front_more d values mid new (e ∷ entries) [] number r s leads is rewrites = absurd leads
front_more d values mid new (e ∷ entries) (p ∷ ps) number r s leads is rewrites =
    (leads.0, leads.1, leads.2, leads.3, leads.4, front_more d leads.1 mid new entries ps number r s leads.5 is rewrites)

-- the entries fire
front_leads : (d : Language) (values new : List Value) (entries : List Fired) (ps : List (Rule × Subst)) → FrontLeads d values entries ps new → LeadsBy d (one_cell values) entries ps (one_cell new)
front_leads d values new [] [] leads = ap one_cell leads
front_leads d values new [] (p ∷ ps) leads = absurd leads
front_leads d values new (e ∷ entries) [] leads = absurd leads
front_leads d values new (e ∷ entries) (p ∷ ps) leads = (
  one_cell leads.1,
  subst (λ (entry : Fired). Fires d (one_cell values) entry.site entry.births p.0 p.1 (one_cell leads.1)) (sym leads.2) (front_fires d leads.0 p.0 p.1 values leads.1 leads.3 leads.4),
  front_leads d leads.1 new entries ps leads.5,
)

-- the steps are a run
front_run : (d : Language) (values new : List Value) (entries : List Fired) (ps : List (Rule × Subst)) → FrontLeads d values entries ps new → Run d.sorts (plain (one_cell values)) ps (plain (one_cell new))
front_run d values new [] [] leads = subst (λ vs. Alike (plain (one_cell values)) (plain (one_cell vs))) leads (alike_self (plain (one_cell values)))
front_run d values new [] (p ∷ ps) leads = absurd leads
front_run d values new (e ∷ entries) [] leads = absurd leads
front_run d values new (e ∷ entries) (p ∷ ps) leads =
    (plain (one_cell leads.1), front_step d.sorts p.0 p.1 values leads.1 leads.4, front_run d leads.1 new entries ps leads.5)

pub front_log : (d : Language) (values new : List Value) (entries : List Fired) (ps : List (Rule × Subst)) → FrontLeads d values entries ps new → IsLog d (one_cell values) entries (one_cell new)
front_log d values new entries ps leads = record {
  instances = ps;
  fires = front_leads d values new entries ps leads;
  run = front_run d values new entries ps leads;
}

-- worker 0 fired each entry
pub front_alone : (d : Language) (values new : List Value) (entries : List Fired) (ps : List (Rule × Subst)) → FrontLeads d values entries ps new → AllByRecursion (λ (e : Fired). e.by ≡ 0) entries
front_alone d values new [] [] leads = tt
front_alone d values new [] (p ∷ ps) leads = absurd leads
front_alone d values new (e ∷ entries) [] leads = absurd leads
front_alone d values new (e ∷ entries) (p ∷ ps) leads = (ap (λ (entry : Fired). entry.by) leads.2, front_alone d leads.1 new entries ps leads.5)
