use Rattle.std.proofs.Common.{◌++◌, ◌∷◌, [], take, sym, ap, ◌∙◌}
use Rattle.std.proofs.lemmas.List.{take_more, take_all}
use Rattle.cell_completion.specs.declared.tree.Tree.{out-Tree}
use Rattle.cell_completion.specs.Trees.{lesser}
use Rattle.cell_completion.proofs.Leasts.{least_with, least_goes_on, least_is}
use Rattle.cell_completion.proofs.building.+least_mark.Goals as goal

pub loop-inner-preserved : goal.loop-inner-preserved
loop-inner-preserved t c =
    c.lesser-found.ensures
    ∙ ap (λ o. lesser o c.least_mark.result) c.loop-inner.invariant
    ∙ ap (lesser (least_with (out-Tree c.args.tree.now).mark (take c.loop-inner.inner-index c.as_slice-inner-items.result.now))) c.least_mark.ensures
    ∙ least_goes_on (out-Tree c.args.tree.now).mark (take c.loop-inner.inner-index c.as_slice-inner-items.result.now) c.inner-item.result
    ∙ ap (least_with (out-Tree c.args.tree.now).mark)
    (ap (λ x. take c.loop-inner.inner-index c.as_slice-inner-items.result.now ++ x ∷ []) c.inner-item.is
    ∙ sym (take_more c.as_slice-inner-items.result.now c.loop-inner.inner-index c.inner-item.result c.loop-inner-test.true))

pub returns : goal.returns
returns t c =
    c.loop-inner.invariant
    ∙ ap (least_with (out-Tree c.args.tree.now).mark)
    (take_all c.loop-inner.inner-index c.as_slice-inner-items.result.now c.loop-inner-test.false ∙ c.as_slice-inner-items.ensures)
    ∙ least_is c.args.tree.now
