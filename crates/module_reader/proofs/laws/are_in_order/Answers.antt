use Rattle.module_reader.proofs.Texts.{are_in_order}
use Rattle.module_reader.proofs.laws.are_in_order.Goals as goal

pub returns : goal.returns
returns c = are_in_order
