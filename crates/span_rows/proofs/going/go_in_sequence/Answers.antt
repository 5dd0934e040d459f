use Rattle.std.proofs.Common.{◌⊎◌}
use Rattle.span_rows.specs.Rows.{Arrows, Closes, Binds}
use Rattle.span_rows.proofs.Adding.{adds_or}
use Rattle.span_rows.proofs.going.go_in_sequence.Goals as goal

pub returns : goal.returns
returns c =
    let words = c.args.tokens.now in
    let at = c.args.at in
    let front = c.args.front.now in
    adds_or (Arrows words at front) (λ x. Closes words at front x ⊎ Binds words at front x) _ _ _ c.in_ok-add_arrow.ensures
    (adds_or (Closes words at front) (Binds words at front) _ _ _ c.in_ok-add_closed.ensures c.in_ok-add_bound.ensures)
