use Rattle.std.proofs.Common.{ap, ◌∙◌}
use Rattle.std.specs.Option.{option_map}
use Rattle.k_terms.proofs.Words.{number_found}
use Rattle.k_terms.proofs.names.Names.find.Goals as goal

pub returns-in_err-index : goal.returns-in_err-index
returns-in_err-index c = ap (option_map (λ symbol. symbol.0)) c.from_residual.ensures ∙ number_found _ _ _ _ c.self.view_is c.in_err-index.ensures.index

pub returns : goal.returns
returns c = number_found _ _ _ _ c.self.view_is c.in_ok-index.ensures.index
