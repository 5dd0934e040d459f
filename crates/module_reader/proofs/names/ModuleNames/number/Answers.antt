use Rattle.module_reader.proofs.Naming.{name_number}
use Rattle.module_reader.proofs.names.ModuleNames.number.Goals as goal

pub returns : goal.returns
returns c = name_number c.self.inside.names.keys c.args.self.now c.args.name.now c.get_index_of.result c.self.view_is c.get_index_of.ensures.index
