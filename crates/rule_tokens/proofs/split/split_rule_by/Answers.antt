use Rattle.std.proofs.Common.{sym, subst}
use Rattle.program_tokens.specs.Base.{AllNumbered, GoesOn}
use Rattle.program_tokens.proofs.Naming.{all_numbered, tokens_go}
use Rattle.rule_tokens.proofs.split.split_rule_by.Goals as goal

pub split_numbered-requires-clause-numbered : goal.split_numbered-requires-clause-numbered
split_numbered-requires-clause-numbered c =
    subst (λ names. AllNumbered c.args.text.now names c.args.tokens.now) (sym c.in_ok-number_tokens.ensures.ok) (all_numbered c.args.text.now c.args.names.now c.args.tokens.now)

pub returns-clause-names : goal.returns-clause-names
returns-clause-names c = subst (GoesOn c.args.names.now) (sym c.in_ok-number_tokens.ensures.ok) (tokens_go c.args.text.now c.args.names.now c.args.tokens.now)
