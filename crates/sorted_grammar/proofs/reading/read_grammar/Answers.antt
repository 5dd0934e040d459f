use Rattle.sorted_grammar.proofs.Outcomes.{read_ok, read_fault, read_exact, read_exact_fault}
use Rattle.sorted_grammar.proofs.reading.read_grammar.Goals as goal

pub returns-clause-ok : goal.returns-clause-ok
returns-clause-ok c = read_ok c.args.sentences.now c.sorted.result c.sorted.ensures

pub returns-clause-fault : goal.returns-clause-fault
returns-clause-fault c = read_fault c.args.sentences.now c.sorted.result c.sorted.ensures

pub returns-clause-exact : goal.returns-clause-exact
returns-clause-exact c = read_exact c.args.sentences.now c.sorted.result c.sorted.ensures

pub returns-clause-exact_fault : goal.returns-clause-exact_fault
returns-clause-exact_fault c = read_exact_fault c.args.sentences.now c.sorted.result c.sorted.ensures
