use Rattle.strictness.proofs.Ranges.{other_kept, other_left}
use Rattle.strictness.proofs.drafts.others.Goals as goal
use Rattle.strictness.proofs.drafts.others.Goals.{then-variable-place+in_ok-push, else-variable-place}
use Rattle.std.proofs.Common.{ap, ◌∙◌}

pub loop-variable-preserved : goal.loop-variable-preserved
loop-variable-preserved c = elim c.if-variable-place.branch [
  | then-variable-place+in_ok-push w ↦
      other_kept c.loop-variable.variable c.args.place c.if-variable-place.parts.items c.loop-variable.parts.items w.if-variable-place.true
      (ap (λ parts. parts.items) w.parts-is ∙ w.in_ok-push.ensures.items) c.loop-variable.invariant
  | else-variable-place w ↦
      other_left c.loop-variable.variable c.args.place c.if-variable-place.parts.items c.loop-variable.parts.items w.if-variable-place.false
      (ap (λ parts. parts.items) w.parts-is) c.loop-variable.invariant
]
