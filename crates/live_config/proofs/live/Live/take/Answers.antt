use Rattle.std.proofs.Common.{ap, ◌∙◌, refl}
use Rattle.std.specs.Ordering.{nat_cmp}
use Rattle.std.specs.FinMap.{is_sorted}
use Rattle.live_config.proofs.Places.{place_find, gap_find, place_remove, gap_remove, remove_rises}
use Rattle.live_config.proofs.live.Live.take.Goals as goal

-- the cell is at its place, and the others keep their order
pub invariant_of-self : goal.invariant_of-self
invariant_of-self c =
    ap (λ es. is_sorted nat_cmp es) c.remove.ensures.items ∙ remove_rises _ _ (ap (λ s. s.now.cells) c.self.view_is) _ _ c.in-Ok.ensures.rising c.in-Ok.ensures.found

pub returns-in-Ok-clause-old : goal.returns-in-Ok-clause-old
returns-in-Ok-clause-old c = place_find _ _ (ap (λ s. s.now.cells) c.self.view_is) _ _ c.in-Ok.ensures.rising c.in-Ok.ensures.found c.remove.result c.remove.ensures.value

pub returns-in-Ok-clause-now : goal.returns-in-Ok-clause-now
returns-in-Ok-clause-now c = ap (λ es. record { cells = es }) (c.remove.ensures.items ∙ place_remove _ _ (ap (λ s. s.now.cells) c.self.view_is) _ _ c.in-Ok.ensures.rising c.in-Ok.ensures.found)

-- it is not there
pub returns-in-Err-clause-old : goal.returns-in-Err-clause-old
returns-in-Err-clause-old c = gap_find _ _ (ap (λ s. s.now.cells) c.self.view_is) _ _ c.in-Err.ensures.rising c.in-Err.ensures.absent

pub returns-in-Err-clause-now : goal.returns-in-Err-clause-now
returns-in-Err-clause-now c = ap (λ es. record { cells = es }) (gap_remove _ _ refl _ _ c.in-Err.ensures.rising c.in-Err.ensures.absent)
