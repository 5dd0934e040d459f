use Rattle.k_terms.proofs.OrderLaws.{value_cmp_total}
use Rattle.k_terms.proofs.laws.order_is_total.Goals as goal

pub returns : goal.returns
returns c = value_cmp_total
