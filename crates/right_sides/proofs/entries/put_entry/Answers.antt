use Rattle.std.proofs.Common.{arith}
use Rattle.right_sides.proofs.Places.{place_within, put_in}
use Rattle.right_sides.proofs.entries.put_entry.Goals as goal

pub insert-requires : goal.insert-requires
insert-requires c =
    let within = place_within c.args.entry.0 c.deref-2.result.now in
    let place = c.place_of-place.ensures in
    let size = c.deref-2.ensures.len in
    omega (arith, within, place, size)

pub returns : goal.returns
returns c =
    put_in c.args.entry c.args.entries.now.items c.deref.result.now c.deref-2.result.now c.insert.new.self.items c.has_key.result c.place_of-place.result
    c.deref.ensures.value c.has_key.ensures c.if-has_key.false c.deref-2.ensures.value c.place_of-place.ensures c.in_ok-insert.ensures.items
