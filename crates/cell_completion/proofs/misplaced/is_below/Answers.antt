use Rattle.std.proofs.Common.{sym, ap, ◌∙◌}
use Rattle.std.specs.Prelude.{Some, []}
use Rattle.cell_completion.proofs.Cutting.{is_greater}
use Rattle.cell_completion.proofs.Declared.{declared_in, way_goes_on, way_found}
use Rattle.cell_completion.proofs.misplaced.is_below.Goals as goal

pub returns-then-parent-outer-clause-below : goal.returns-then-parent-outer-clause-below
returns-then-parent-outer-clause-below c = λ _.
    way_found c.args.shapes.now c.requires.tree c.args.outer c.args.inner c.loop-parent.cell
    (sym c.parent_of.ensures ∙ c.in-Some.is ∙ ap (λ n. Some n) c.if-parent-outer.true) c.loop-parent.invariant

pub loop-parent-smaller : goal.loop-parent-smaller
loop-parent-smaller c =
    is_greater c.args.shapes.now [] c.requires.tree c.in-Some.parent c.loop-parent.cell
    (declared_in c.args.shapes.now c.loop-parent.cell c.in-Some.parent (sym c.parent_of.ensures ∙ c.in-Some.is))

pub loop-parent-preserved : goal.loop-parent-preserved
loop-parent-preserved c =
    way_goes_on c.args.shapes.now c.requires.tree c.args.outer c.args.inner c.loop-parent.cell c.in-Some.parent
    (sym c.parent_of.ensures ∙ c.in-Some.is) c.if-parent-outer.false c.loop-parent.invariant
