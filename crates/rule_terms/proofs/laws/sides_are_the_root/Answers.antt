use Rattle.rule_terms.proofs.SoundFacts.{sides_are_the_root as the_law}
use Rattle.rule_terms.proofs.laws.sides_are_the_root.Goals as goal

pub returns : goal.returns
returns c = the_law
