use Rattle.std.proofs.Common.{arith, ap, ◌∙◌, sym, Some}
use Rattle.std.specs.Ordering.{nat_cmp}
use Rattle.std.specs.FinMap.{is_sorted}
use Rattle.live_config.proofs.Places.{place_find, gap_find, place_number, place_set, gap_insert, set_rises, insert_rises}
use Rattle.live_config.proofs.live.Live.put.Goals as goal

-- the cell is at its place, and the new one takes it
pub invariant_of-self : goal.invariant_of-self
invariant_of-self c =
    let place = c.in-Ok.ensures.found in
    let same = ap (λ s. s.now.cells) c.self.view_is in
    let number = place_number _ _ same _ _ c.in-Ok.ensures.rising place c.index_mut.result.now c.index_mut.ensures.value in
    set_rises _ _ same _ _ c.in-Ok.ensures.rising place _ _ _ number c.replace.ensures.after

pub returns-in-Ok-clause-old : goal.returns-in-Ok-clause-old
returns-in-Ok-clause-old c =
    ap Some c.replace.ensures.value ∙ place_find _ _ (ap (λ s. s.now.cells) c.self.view_is) _ _ c.in-Ok.ensures.rising c.in-Ok.ensures.found c.index_mut.result.now c.index_mut.ensures.value

pub returns-in-Ok-clause-now : goal.returns-in-Ok-clause-now
returns-in-Ok-clause-now c =
    let place = c.in-Ok.ensures.found in
    let same = ap (λ s. s.now.cells) c.self.view_is in
    let number = place_number _ _ same _ _ c.in-Ok.ensures.rising place c.index_mut.result.now c.index_mut.ensures.value in
    ap (λ es. record { cells = es }) (place_set _ _ same _ _ c.in-Ok.ensures.rising place _ _ _ number c.replace.ensures.after)

-- it is not there, and there is room for it
pub unreachable-requires : goal.unreachable-requires
unreachable-requires c =
    let same = ap (λ s. s.now.cells) c.self.view_is in
    let room = c.requires.room (sym (gap_find _ _ same _ _ c.in-Err.ensures.rising c.in-Err.ensures.absent)) in
    let spare = ap (λ s. s.spare) c.self.view_is in
    let full = c.in-Err-insert.ensures.full in
    omega (arith, room, spare, full)

pub invariant_of-self-in-Err : goal.invariant_of-self-in-Err
invariant_of-self-in-Err c =
    ap (λ es. is_sorted nat_cmp es) c.in-Ok-insert.ensures.items ∙ insert_rises _ _ (ap (λ s. s.now.cells) c.self.view_is) _ _ c.in-Err.ensures.rising c.in-Err.ensures.absent _

pub returns-in-Ok-insert-clause-old : goal.returns-in-Ok-insert-clause-old
returns-in-Ok-insert-clause-old c = gap_find _ _ (ap (λ s. s.now.cells) c.self.view_is) _ _ c.in-Err.ensures.rising c.in-Err.ensures.absent

pub returns-in-Ok-insert-clause-now : goal.returns-in-Ok-insert-clause-now
returns-in-Ok-insert-clause-now c =
    ap (λ es. record { cells = es }) (c.in-Ok-insert.ensures.items ∙ gap_insert _ _ (ap (λ s. s.now.cells) c.self.view_is) _ _ c.in-Err.ensures.rising c.in-Err.ensures.absent _)

pub returns-in-Ok-insert-clause-added : goal.returns-in-Ok-insert-clause-added
returns-in-Ok-insert-clause-added c none =
    let same = ap (λ s. s.now.cells) c.self.view_is in
    let room = c.requires.room (sym (gap_find _ _ same _ _ c.in-Err.ensures.rising c.in-Err.ensures.absent)) in
    let spare = ap (λ s. s.spare) c.self.view_is in
    grind (arith, room, spare, c.in-Ok-insert.ensures.len, c.in-Ok-insert.ensures.in_place)
