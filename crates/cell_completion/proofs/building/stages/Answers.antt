use Rattle.std.proofs.Common.{◌-◌, sym, ap, ◌∙◌}
use Rattle.std.specs.Option.{option_map, option_and_then}
use Rattle.cell_completion.specs.Building.{stages}
use Rattle.cell_completion.proofs.Stages.{stages_step, stages_end}
use Rattle.cell_completion.proofs.building.stages.Goals as goal

pub loop-cell-preserved : goal.loop-cell-preserved
loop-cell-preserved c =
    c.loop-cell.invariant
    ∙ stages_step c.args.shapes.now c.args.first c.loop-cell.cell c.loop-cell.trees.items c.loop-cell-test.true
    ∙ ap (option_and_then (stages c.args.shapes.now c.args.first ((c.loop-cell.cell - 1) - c.args.first)))
    (sym c.in_ok-new.ensures ∙ ap (option_map (λ v. v.items)) c.in-Some.is)

pub returns-in-None : goal.returns-in-None
returns-in-None c =
    sym (c.loop-cell.invariant
    ∙ stages_step c.args.shapes.now c.args.first c.loop-cell.cell c.loop-cell.trees.items c.loop-cell-test.true
    ∙ ap (option_and_then (stages c.args.shapes.now c.args.first ((c.loop-cell.cell - 1) - c.args.first)))
    (sym c.in_ok-new.ensures ∙ ap (option_map (λ v. v.items)) c.in-None.is))

pub returns : goal.returns
returns c = sym (c.loop-cell.invariant ∙ stages_end c.args.shapes.now c.args.first c.loop-cell.cell c.loop-cell.trees.items c.loop-cell-test.false)
