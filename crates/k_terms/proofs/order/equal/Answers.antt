use Rattle.std.proofs.Common.{◌∙◌}
use Rattle.k_terms.proofs.OrderLaws.{derived_eq-is, is_eq-value_cmp}
use Rattle.k_terms.proofs.order.equal.Goals as goal

pub returns-clause-same : goal.returns-clause-same
returns-clause-same c = is_eq-value_cmp _ _ _ (c.eq.ensures ∙ derived_eq-is _ _)

pub returns-clause-tie : goal.returns-clause-tie
returns-clause-tie c = c.eq.ensures ∙ derived_eq-is _ _
