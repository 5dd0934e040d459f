use Rattle.std.proofs.Common.{sym, subst, ap, ◌∙◌}
use Rattle.program_tokens.specs.Base.{AllNumbered, GoesOn, with_tokens}
use Rattle.program_tokens.proofs.Naming.{all_numbered, tokens_go}
use Rattle.program_tokens.proofs.split.split_text.Goals as goal

pub split_base-requires-clause-numbered : goal.split_base-requires-clause-numbered
split_base-requires-clause-numbered c =
    subst (λ names. AllNumbered c.args.text.now names c.in_ok-base.base.tokens.items)
    (sym (c.in_ok-number_tokens.ensures.ok ∙ ap (with_tokens c.args.text.now c.args.names.now) c.deref.ensures.value))
    (all_numbered c.args.text.now c.args.names.now c.in_ok-base.base.tokens.items)

pub returns-clause-names : goal.returns-clause-names
returns-clause-names c =
    subst (GoesOn c.args.names.now) (sym (c.in_ok-number_tokens.ensures.ok ∙ ap (with_tokens c.args.text.now c.args.names.now) c.deref.ensures.value))
    (tokens_go c.args.text.now c.args.names.now c.in_ok-base.base.tokens.items)
