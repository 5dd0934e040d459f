use Rattle.grammar_terms.specs.Cuts.{Has}
use Rattle.grammar_terms.proofs.Cutting.{cuts_unions}
use Rattle.grammar_terms.proofs.laws.cuts_unions.Goals as goal

pub returns : goal.returns
returns c = λ all more. cuts_unions (Has all) (Has more)
