use Rattle.std.proofs.Common.{arith, ◌+◌, subst, ap, ◌∙◌, ◌++◌, ◌≡◌, ◌≤◌, ◌<◌, ◌-◌, length, length-drop, []}
use Rattle.k_lexer.specs.Fronts.{IsTaken, made}
use Rattle.k_lexer.specs.Lexing.{start}
use Rattle.k_lexer.proofs.Steps.{reaches_more}
use Rattle.k_lexer.proofs.lexing.find_stop.Goals as goal

pub loop-at-init : goal.loop-at-init
loop-at-init c = (record { tokens = []; reached = start }, omega arith)

pub loop-at-preserved : goal.loop-at-preserved
loop-at-preserved c =
    let taken = c.in-Ok.ensures in
    let text = c.args.text.now in
    let before = c.loop-at.invariant.0 in
    let more = reaches_more text before.tokens c.loop-at.at c.in-Ok.piece.kind c.in-Ok.piece.size before.reached
    (subst (λ t. IsTaken t c.in-Ok.piece.kind c.in-Ok.piece.size) c.split_at.ensures.back taken.0) in
    let left : length c.split_at.result.1.now ≡ length text - c.loop-at.at = ap length c.split_at.ensures.back ∙ length-drop c.loop-at.at text in
    let fits : c.in-Ok.piece.size ≤ length c.split_at.result.1.now = taken.2 in
    let within : c.loop-at.at < length text = c.loop-at-test.true in
    let size : c.loop-at.at + c.in-Ok.piece.size ≤ length text = omega arith in
    (record { tokens = before.tokens ++ made c.in-Ok.piece.kind c.loop-at.at c.in-Ok.piece.size; reached = more }, size)
