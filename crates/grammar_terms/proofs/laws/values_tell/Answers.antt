use Rattle.grammar_terms.proofs.Telling.{values_tell}
use Rattle.grammar_terms.proofs.laws.values_tell.Goals as goal

pub returns : goal.returns
returns c = values_tell
