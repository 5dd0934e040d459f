use Rattle.std.proofs.Common.{◌≡◌, arith}
use Rattle.span_rows.specs.Tokens.{IsToken, IsTokenOver}
use Rattle.span_rows.proofs.Adding.{adds_as}
use Rattle.span_rows.proofs.tokens.add_token.Goals as goal

pub returns : goal.returns
returns c =
    let same : c.args.from ≡ c.args.last = omega arith in
    adds_as (IsToken c.args.grammar.now c.args.tokens.now c.args.last) (IsTokenOver c.args.grammar.now c.args.tokens.now c.args.from c.args.last) _ _
    (λ x is. (same, is)) (λ x over. over.1) c.in_ok-add_alone.ensures
