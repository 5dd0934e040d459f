use Rattle.import_order.proofs.Closures.{no_order}
use Rattle.import_order.proofs.laws.no_order.Goals as goal

pub returns : goal.returns
returns c = no_order
