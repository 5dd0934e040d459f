use Rattle.std.proofs.Common.{◌-◌, ◌<◌, length, get_or, sym, ap, ◌∙◌, arith}
use Rattle.std.proofs.lemmas.Option.{slice_get-get_or}
use Rattle.std.specs.Prelude.{Some}
use Rattle.cell_trees.proofs.Putting.{begun, goes_on, ended}
use Rattle.cell_trees.proofs.beginning.initial.Goals as goal

pub loop-number-init : goal.loop-number-init
loop-number-init c = begun c.args.tree.now c.args.pgm.now c.args.input.now c.shapes-shapes.result.now c.new-live.result.now c.shapes-shapes.ensures c.new-live.ensures

pub first_cell-requires : goal.first_cell-requires
first_cell-requires c =
    let some = c.loop-number-test.true in
    let within = c.loop-number.auto.number in
    let same = ap length c.shapes-shapes.ensures in
    let less : c.loop-number.number - 1 < length c.args.tree.now.shapes = omega (arith, some, within, same) in
    slice_get-get_or c.args.tree.now.shapes (c.loop-number.number - 1) c.index-shapes-number.result less
    ∙ ap Some (sym (c.index-shapes-number.is ∙ ap (λ shapes. get_or shapes (c.loop-number.number - 1) c.index-shapes-number.result) c.shapes-shapes.ensures))

pub loop-number-preserved : goal.loop-number-preserved
loop-number-preserved c =
    let within = c.loop-number.auto.number in
    let same = ap length c.shapes-shapes.ensures in
    goes_on c.args.tree.now c.args.pgm.now c.args.input.now c.loop-number.number c.loop-number.live.now c.put_cell.new.live.now c.number_of.result c.in_ok-cell.cell c.index-shapes-number.result
    c.loop-number-test.true (omega (arith, within, same)) c.loop-number.invariant c.number_of.ensures c.in_ok-cell.ensures
    (c.index-shapes-number.is ∙ ap (λ shapes. get_or shapes (c.loop-number.number - 1) c.index-shapes-number.result) c.shapes-shapes.ensures)
    c.in_ok-put_cell.ensures

pub returns : goal.returns
returns c = ended c.args.tree.now c.args.pgm.now c.args.input.now c.loop-number.number c.loop-number.live.now (omega (arith, c.loop-number-test.false)) c.loop-number.invariant
