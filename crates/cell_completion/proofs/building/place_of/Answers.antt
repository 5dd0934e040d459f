use Rattle.std.proofs.Common.{sym, ap, ◌∙◌}
use Rattle.cell_completion.specs.Building.{stands_before}
use Rattle.cell_completion.proofs.Prefixes.{place_begins, place_stops, place_goes_on, place_ends}
use Rattle.cell_completion.proofs.building.place_of.Goals as goal

pub loop-place-init : goal.loop-place-init
loop-place-init c = place_begins c.args.tree.now c.args.trees.now

pub returns-then-not-stands_before : goal.returns-then-not-stands_before
returns-then-not-stands_before c =
    place_stops c.args.tree.now c.args.trees.now c.loop-place.place c.index-trees-place.result c.loop-place-test.true c.loop-place.invariant
    (ap (λ u. stands_before u c.args.tree.now) (sym c.index-trees-place.is) ∙ sym c.stands_before.ensures ∙ c.if-not-stands_before.true)

pub loop-place-preserved : goal.loop-place-preserved
loop-place-preserved c =
    place_goes_on c.args.tree.now c.args.trees.now c.loop-place.place c.index-trees-place.result c.loop-place-test.true c.loop-place.invariant
    (ap (λ u. stands_before u c.args.tree.now) (sym c.index-trees-place.is) ∙ sym c.stands_before.ensures ∙ c.if-not-stands_before.false)

pub returns : goal.returns
returns c =
    place_ends c.args.tree.now c.args.trees.now c.loop-place.place c.loop-place-test.false c.loop-place.auto.place-end c.loop-place.invariant
