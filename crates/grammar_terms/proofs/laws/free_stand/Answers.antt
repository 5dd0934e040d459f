use Rattle.grammar_terms.proofs.Free.{free_stands}
use Rattle.grammar_terms.proofs.laws.free_stand.Goals as goal

pub returns : goal.returns
returns c = free_stands
