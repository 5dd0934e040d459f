use Rattle.grammar_terms.specs.Cuts.{Has}
use Rattle.grammar_terms.proofs.Cutting.{cuts_again}
use Rattle.grammar_terms.proofs.laws.cuts_again.Goals as goal

pub returns : goal.returns
returns c = λ all. cuts_again (Has all)
