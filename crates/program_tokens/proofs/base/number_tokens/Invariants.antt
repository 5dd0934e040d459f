use Rattle.std.proofs.Common.{◌≡◌, drop}
use Rattle.program_tokens.specs.Base.{with_tokens, GoesOn}
use Rattle.program_tokens.proofs.base.number_tokens.Given as goal

abbrev pub invariant-loop-token : goal.invariant-loop-token
invariant-loop-token l = (with_tokens l.text l.fn.names l.tokens ≡ with_tokens l.text l.names (drop l.token-index l.tokens)) × GoesOn l.fn.names l.names
