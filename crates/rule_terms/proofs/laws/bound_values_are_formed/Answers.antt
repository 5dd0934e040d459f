use Rattle.rule_terms.proofs.BoundFormed.{bound_values_are_formed}
use Rattle.rule_terms.proofs.laws.bound_values_are_formed.Goals as goal

pub returns : goal.returns
returns c = bound_values_are_formed
