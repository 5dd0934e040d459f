use Rattle.import_order.proofs.Closures.{stands_in_front}
use Rattle.import_order.proofs.laws.stands_in_front.Goals as goal

pub returns : goal.returns
returns c = stands_in_front
