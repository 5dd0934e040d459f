use Rattle.std.proofs.Common.{arith, ◌+◌, subst, sym, ap, ◌∙◌, ◌≡◌, ◌≤◌, ◌<◌, ◌-◌, length, length-drop}
use Rattle.k_lexer.specs.Fronts.{IsTaken}
use Rattle.k_lexer.specs.Lexing.{Reaches, start}
use Rattle.k_lexer.proofs.Steps.{reaches_more}
use Rattle.k_lexer.proofs.lexing.scan.Goals as goal

pub loop-at-init : goal.loop-at-init
loop-at-init c = (subst (λ ts. Reaches c.args.text.now ts 0) (sym c.new-found.ensures.items) start, omega arith)

pub loop-at-preserved : goal.loop-at-preserved
loop-at-preserved c =
    let taken = c.in-Ok.ensures in
    let text = c.args.text.now in
    let more = reaches_more text c.loop-at.found.items c.loop-at.at c.in-Ok.piece.kind c.in-Ok.piece.size c.loop-at.invariant.0
    (subst (λ t. IsTaken t c.in-Ok.piece.kind c.in-Ok.piece.size) c.split_at.ensures.back taken.0) in
    let left : length c.split_at.result.1.now ≡ length text - c.loop-at.at = ap length c.split_at.ensures.back ∙ length-drop c.loop-at.at text in
    let fits : c.in-Ok.piece.size ≤ length c.split_at.result.1.now = taken.2 in
    let within : c.loop-at.at < length text = c.loop-at-test.true in
    let size : c.loop-at.at + c.in-Ok.piece.size ≤ length text = omega arith in
    (subst (λ ts. Reaches text ts (c.loop-at.at + c.in-Ok.piece.size)) (sym c.in_default.ensures.added) more, size)
