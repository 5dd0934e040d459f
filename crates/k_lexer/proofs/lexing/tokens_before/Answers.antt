use Rattle.std.proofs.Common.{arith, ◌+◌, subst, sym, ap, ◌∙◌, ◌≡◌, ◌≤◌, ◌<◌, ◌-◌, length, length-drop}
use Rattle.k_lexer.specs.Fronts.{IsTaken}
use Rattle.k_lexer.specs.Lexing.{Reaches, start}
use Rattle.k_lexer.proofs.Steps.{reaches_more}
use Rattle.k_lexer.proofs.Before.{are_before, stop_past, piece_past, end_past}
use Rattle.k_lexer.proofs.lexing.tokens_before.Goals as goal

pub loop-from-init : goal.loop-from-init
loop-from-init c = (subst (λ ts. Reaches c.args.text.now ts 0) (sym c.new-found.ensures.items) start, omega arith, omega arith)

pub returns-in-Err-clause-ok : goal.returns-in-Err-clause-ok
returns-in-Err-clause-ok c =
    are_before c.args.text.now c.loop-from.found.items c.loop-from.from c.args.at c.loop-from.invariant.0 c.loop-from.invariant.2
    (stop_past c.args.text.now c.split_at.result.1.now c.loop-from.from c.args.at _ c.split_at.ensures.back c.in-Err.ensures.0)

pub returns-then-at-from-clause-ok : goal.returns-then-at-from-clause-ok
returns-then-at-from-clause-ok c =
    are_before c.args.text.now c.loop-from.found.items c.loop-from.from c.args.at c.loop-from.invariant.0 c.loop-from.invariant.2
    (piece_past c.args.text.now c.split_at.result.1.now c.loop-from.from c.args.at c.in-Ok.piece.kind c.in-Ok.piece.size c.split_at.ensures.back c.in-Ok.ensures.0
    c.loop-from.invariant.2 c.if-at-from.true)

pub loop-from-preserved : goal.loop-from-preserved
loop-from-preserved c =
    let taken = c.in-Ok.ensures in
    let text = c.args.text.now in
    let more = reaches_more text c.loop-from.found.items c.loop-from.from c.in-Ok.piece.kind c.in-Ok.piece.size c.loop-from.invariant.0
    (subst (λ t. IsTaken t c.in-Ok.piece.kind c.in-Ok.piece.size) c.split_at.ensures.back taken.0) in
    let left : length c.split_at.result.1.now ≡ length text - c.loop-from.from = ap length c.split_at.ensures.back ∙ length-drop c.loop-from.from text in
    let fits : c.in-Ok.piece.size ≤ length c.split_at.result.1.now = taken.2 in
    let within : c.loop-from.from < length text = c.loop-from-test.true in
    let size : c.loop-from.from + c.in-Ok.piece.size ≤ length text = omega arith in
    let less : c.in-Ok.piece.size ≤ c.args.at - c.loop-from.from = c.if-at-from.false in
    let sofar : c.loop-from.from ≤ c.args.at = c.loop-from.invariant.2 in
    (subst (λ ts. Reaches text ts (c.loop-from.from + c.in-Ok.piece.size)) (sym c.in_default.ensures.added) more, size, omega arith)

pub returns-clause-ok : goal.returns-clause-ok
returns-clause-ok c =
    are_before c.args.text.now c.loop-from.found.items c.loop-from.from c.args.at c.loop-from.invariant.0 c.loop-from.invariant.2
    (end_past c.args.text.now c.loop-from.from c.args.at (omega (arith, c.loop-from-test.false, c.loop-from.invariant.1)))
