use Rattle.sorted_grammar.proofs.Outcomes.{not_both}
use Rattle.sorted_grammar.proofs.laws.not_both.Goals as goal

pub returns : goal.returns
returns c = not_both
