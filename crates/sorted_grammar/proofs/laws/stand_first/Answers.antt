use Rattle.sorted_grammar.proofs.Mentions.{built_in_front}
use Rattle.sorted_grammar.proofs.laws.stand_first.Goals as goal

pub returns : goal.returns
returns c = built_in_front
