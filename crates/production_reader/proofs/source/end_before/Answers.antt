use Rattle.std.proofs.Common.{sym, ap, ◌∙◌}
use Rattle.std.specs.Option.{option_map_or}
use Rattle.production_reader.proofs.Sources.{end_is}
use Rattle.production_reader.proofs.source.end_before.Goals as goal

pub returns-in-Some : goal.returns-in-Some
returns-in-Some c = ap (λ o. option_map_or (λ token. token.end) o 0) (sym c.in-Some.is) ∙ end_is c.args.tokens.now c.args.at c.token_at.result c.if-at-eq0.false c.token_at.ensures

pub returns-in-None : goal.returns-in-None
returns-in-None c = ap (λ o. option_map_or (λ token. token.end) o 0) (sym c.in-None.is) ∙ end_is c.args.tokens.now c.args.at c.token_at.result c.if-at-eq0.false c.token_at.ensures
