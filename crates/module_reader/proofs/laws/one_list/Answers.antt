use Rattle.module_reader.proofs.Texts.{one_list}
use Rattle.module_reader.proofs.laws.one_list.Goals as goal

pub returns : goal.returns
returns c = one_list
