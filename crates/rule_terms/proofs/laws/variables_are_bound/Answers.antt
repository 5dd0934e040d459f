use Rattle.rule_terms.proofs.SoundFacts.{variables_are_bound as the_law}
use Rattle.rule_terms.proofs.laws.variables_are_bound.Goals as goal

pub returns : goal.returns
returns c = the_law
