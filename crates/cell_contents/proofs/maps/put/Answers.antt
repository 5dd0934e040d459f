use Rattle.std.proofs.Common.{ap, ◌∙◌, arith}
use Rattle.std.specs.List.{insert}
use Rattle.cell_contents.specs.Choices.{place_in}
use Rattle.cell_contents.proofs.Entering.{place_within, put_at}
use Rattle.cell_contents.proofs.maps.put.Goals as goal

pub insert-requires : goal.insert-requires
insert-requires c =
    let within = place_within c.args.key c.deref.result.now in
    let place = c.place_of-place.ensures in
    let size = c.deref.ensures.len in
    omega (arith, within, place, size)

pub returns : goal.returns
returns c =
    c.in_ok-insert.ensures.items
    ∙ ap (λ i. insert c.args.entries.now.items i (c.args.key, c.args.value)) (c.place_of-place.ensures ∙ ap (place_in c.args.key) c.deref.ensures.value)
    ∙ put_at c.args.key c.args.value c.args.entries.now.items c.requires
