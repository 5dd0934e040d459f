use Rattle.std.proofs.Common.{false, sym, ap, ◌∙◌, subst, take, ◌+◌}
use Rattle.std.specs.Prelude.{Some, None}
use Rattle.cell_completion.specs.Completion.{IsMisplaced}
use Rattle.cell_completion.proofs.Firsts.{IsFirst, first_skips, first_takes, first_ends}
use Rattle.cell_completion.proofs.misplaced.first_of.Goals.{then-is_misplaced, else-is_misplaced}
use Rattle.cell_completion.proofs.misplaced.first_of.Goals as goal

pub loop-one-preserved : goal.loop-one-preserved
loop-one-preserved c =
    elim c.if-is_misplaced.branch [
      | then-is_misplaced w ↦
          subst (IsFirst (IsMisplaced c.args.shapes.now c.args.written.now) (take (c.loop-one.one-index + 1) c.args.written.now))
          (sym (w.found-is ∙ ap (λ v. Some v) w.earlier.ensures))
          (first_takes (IsMisplaced c.args.shapes.now c.args.written.now) c.args.written.now c.loop-one.one-index (record { mark = 0; cell = 0; above = None; both = false })
          c.loop-one.found c.loop-one-test.true c.loop-one.invariant (c.is_misplaced.ensures.misplaced w.if-is_misplaced.true))
      | else-is_misplaced w ↦
          subst (IsFirst (IsMisplaced c.args.shapes.now c.args.written.now) (take (c.loop-one.one-index + 1) c.args.written.now)) (sym w.found-is)
          (first_skips (IsMisplaced c.args.shapes.now c.args.written.now) c.args.written.now c.loop-one.one-index (record { mark = 0; cell = 0; above = None; both = false })
          c.loop-one.found c.loop-one-test.true c.loop-one.invariant (c.is_misplaced.ensures.placed w.if-is_misplaced.false))
    ]

pub returns : goal.returns
returns c =
    first_ends (IsMisplaced c.args.shapes.now c.args.written.now) c.args.written.now c.loop-one.one-index c.loop-one.found c.loop-one-test.false c.loop-one.invariant
