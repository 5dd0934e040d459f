use Rattle.std.proofs.Common.{sym, ap, ◌∙◌}
use Rattle.k_terms.specs.Value.{value_cmp}
use Rattle.k_terms.proofs.OrderLaws.{value_cmp_itself}
use Rattle.k_terms.proofs.laws.equal_values_tie.Goals as goal

pub returns : goal.returns
returns c = λ v w e. ap (value_cmp v) (sym e) ∙ value_cmp_itself v
