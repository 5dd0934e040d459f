use Rattle.std.proofs.Common.{sym, subst}
use Rattle.k_lexer.specs.Fronts.{IsFirstChar}
use Rattle.k_lexer.proofs.Tails.{run_more, run_stops}
use Rattle.k_lexer.proofs.front.run_size.Goals as goal

pub returns-then-not-continues_token : goal.returns-then-not-continues_token
returns-then-not-continues_token c =
    run_stops c.args.kind c.args.rest.now c.run.at c.in-Some.next c.in-Some.size c.requires c.run.invariant
    (subst (λ t. IsFirstChar t c.in-Some.next c.in-Some.size) c.split_at.ensures.back c.in-Some.ensures) (sym c.if-not-continues_token.ensures)

pub run-preserved : goal.run-preserved
run-preserved c =
    run_more c.args.kind c.args.rest.now c.run.at c.in-Some.next c.in-Some.size c.run.invariant
    (subst (λ t. IsFirstChar t c.in-Some.next c.in-Some.size) c.split_at.ensures.back c.in-Some.ensures) (sym c.if-not-continues_token.ensures)
