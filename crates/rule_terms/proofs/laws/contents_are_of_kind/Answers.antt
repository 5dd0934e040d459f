use Rattle.rule_terms.proofs.RightKinds.{contents_are_of_kind}
use Rattle.rule_terms.proofs.laws.contents_are_of_kind.Goals as goal

pub returns : goal.returns
returns c = contents_are_of_kind
