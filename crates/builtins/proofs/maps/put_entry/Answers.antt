use Rattle.std.proofs.Common.{sym, ap, ◌∙◌, arith}
use Rattle.builtins.specs.Places.{place_at, is_tied_at}
use Rattle.builtins.proofs.Putting.{place_within, inserted_at, set_at}
use Rattle.builtins.proofs.maps.put_entry.Goals as goal

pub insert-requires : goal.insert-requires
insert-requires c =
    let within = place_within c.args.key c.deref.result.now in
    let place = c.place_of-place.ensures in
    let size = c.deref.ensures.len in
    omega (arith, within, place, size)

pub returns-then-has_key_at : goal.returns-then-has_key_at
returns-then-has_key_at c =
    set_at c.args.key c.args.value c.args.entries.now.items c.place_of-place.result (c.place_of-place.ensures ∙ ap (place_at c.args.key) c.deref.ensures.value)
    c.index_mut.result.now
    (ap (λ es. is_tied_at c.args.key es c.place_of-place.result) (sym c.deref-2.ensures.value) ∙ sym c.has_key_at.ensures ∙ c.if-has_key_at.true)
    c.index_mut.ensures.value

pub returns-in_ok-insert : goal.returns-in_ok-insert
returns-in_ok-insert c =
    c.in_ok-insert.ensures.items
    ∙ inserted_at c.args.key c.args.value c.args.entries.now.items c.place_of-place.result (c.place_of-place.ensures ∙ ap (place_at c.args.key) c.deref.ensures.value)
    (ap (λ es. is_tied_at c.args.key es c.place_of-place.result) (sym c.deref-2.ensures.value) ∙ sym c.has_key_at.ensures ∙ c.if-has_key_at.false)
