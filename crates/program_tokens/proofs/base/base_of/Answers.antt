use Rattle.k_lexer.proofs.Before.{whole_front}
use Rattle.program_tokens.proofs.Naming.{before_stand}
use Rattle.program_tokens.proofs.base.base_of.Goals as goal

pub returns-in_default-clause-base : goal.returns-in_default-clause-base
returns-in_default-clause-base c = (whole_front c.args.text.now c.in_ok-tokens.tokens.items c.in_default.ensures).0 c.in_ok-tokens.ensures

pub returns-in_default-clause-stand : goal.returns-in_default-clause-stand
returns-in_default-clause-stand c = before_stand c.args.text.now _ c.in_ok-tokens.tokens.items c.in_ok-tokens.ensures

pub returns-clause-stand : goal.returns-clause-stand
returns-clause-stand c = before_stand c.args.text.now _ c.in_ok-tokens-2.tokens.items c.in_ok-tokens-2.ensures
