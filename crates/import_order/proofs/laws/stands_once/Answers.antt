use Rattle.import_order.proofs.Closures.{stands_once}
use Rattle.import_order.proofs.laws.stands_once.Goals as goal

pub returns : goal.returns
returns c = stands_once
