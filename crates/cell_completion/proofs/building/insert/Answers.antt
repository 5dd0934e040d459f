use Rattle.std.proofs.Common.{ap, ◌∙◌, arith}
use Rattle.std.specs.List.{insert}
use Rattle.cell_completion.specs.Building.{place_of}
use Rattle.cell_completion.proofs.Inserting.{place_within, inserted_at}
use Rattle.cell_completion.proofs.building.insert.Goals as goal

pub insert-requires : goal.insert-requires
insert-requires c =
    let within = place_within c.args.tree c.deref.result.now in
    let place = c.place_of-place.ensures in
    let size = c.deref.ensures.len in
    omega (arith, within, place, size)

pub returns : goal.returns
returns c =
    c.in_ok-insert.ensures.items
    ∙ ap (λ i. insert c.args.trees.now.items i c.args.tree) (c.place_of-place.ensures ∙ ap (place_of c.args.tree) c.deref.ensures.value)
    ∙ inserted_at c.args.tree c.args.trees.now.items
