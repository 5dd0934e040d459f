use Rattle.import_order.proofs.Closures.{one_closure}
use Rattle.import_order.proofs.laws.one_closure.Goals as goal

pub returns : goal.returns
returns c = one_closure
