use Rattle.k_lexer.proofs.Decoding.{decoded_first, decoded_none}
use Rattle.k_lexer.proofs.front.first_char.Goals as goal

pub returns-in-Some-default : goal.returns-in-Some-default
returns-in-Some-default c =
    decoded_first c.args.rest.now c.in-Some-default.first c.decode.result.1 c.decode.result.0 c.decode.ensures.char c.decode.ensures.size c.in-Some-default.is-0

pub returns-in-None-default : goal.returns-in-None-default
returns-in-None-default c = decoded_none c.args.rest.now c.decode.result.0 c.decode.ensures.char c.in-None-default.is-0
