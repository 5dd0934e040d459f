use Rattle.module_reader.proofs.Naming.{name_number}
use Rattle.sorted_grammar.proofs.declared.SortNames.number.Goals as goal

pub returns-clause-number : goal.returns-clause-number
returns-clause-number c = name_number c.self.inside.names.keys c.args.self.now c.args.name.now c.get_index_of.result c.self.view_is c.get_index_of.ensures.index
