use Rattle.std.proofs.Common.{◌∙◌}
use Rattle.k_terms.proofs.OrderLaws.{derived_cmp-is}
use Rattle.k_terms.proofs.order.cmp.Goals as goal

pub returns : goal.returns
returns c = c.cmp.ensures ∙ derived_cmp-is _ _
