use Rattle.import_order.proofs.Closures.{lies_on_no_cycle}
use Rattle.import_order.proofs.laws.lies_on_no_cycle.Goals as goal

pub returns : goal.returns
returns c = lies_on_no_cycle
