use Rattle.program_tokens.proofs.Naming.{token_more, goes_more}
use Rattle.program_tokens.proofs.base.number_tokens.Goals as goal

pub loop-token-preserved : goal.loop-token-preserved
loop-token-preserved c = (
  token_more c.args.text.now c.args.names.now c.loop-token.names c.number_token.new.names c.args.tokens.now c.loop-token.token-index _ c.loop-token-test.true
      c.loop-token.invariant.0 c.in_ok-number_token.ensures.ok,
  goes_more c.args.text.now c.args.names.now c.loop-token.names c.number_token.new.names _ c.loop-token.invariant.1 c.in_ok-number_token.ensures.ok,
)
