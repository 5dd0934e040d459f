use Rattle.std.proofs.Common.{◌⊎◌}
use Rattle.span_rows.specs.Rows.{Passes, Rests, GoesInSequence}
use Rattle.span_rows.proofs.Adding.{adds_or}
use Rattle.span_rows.proofs.going.go_on.Goals as goal

pub returns : goal.returns
returns c =
    let g = c.args.grammar.now in
    let words = c.args.tokens.now in
    let at = c.args.at in
    let front = c.args.front.now in
    adds_or (Passes g words at front) (λ x. Rests g words at front x ⊎ GoesInSequence words at front x) _ _ _ c.in_ok-pass.ensures
    (adds_or (Rests g words at front) (GoesInSequence words at front) _ _ _ c.in_ok-add_rest.ensures c.in_ok-go_in_sequence.ensures)
