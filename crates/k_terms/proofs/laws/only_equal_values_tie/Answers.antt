use Rattle.k_terms.proofs.OrderLaws.{value_cmp_ties}
use Rattle.k_terms.proofs.laws.only_equal_values_tie.Goals as goal

pub returns : goal.returns
returns c = value_cmp_ties
