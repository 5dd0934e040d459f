use Rattle.import_order.proofs.Closures.{has_what_is_reached}
use Rattle.import_order.proofs.laws.has_what_is_reached.Goals as goal

pub returns : goal.returns
returns c = has_what_is_reached
