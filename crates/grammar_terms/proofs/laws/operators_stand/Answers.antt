use Rattle.grammar_terms.proofs.Standing.{operators_stand}
use Rattle.grammar_terms.proofs.laws.operators_stand.Goals as goal

pub returns : goal.returns
returns c = operators_stand
