use Rattle.printed_form.proofs.SamePrint.{order_of_children_is_free}
use Rattle.printed_form.proofs.laws.order_of_children_is_free.Goals as goal

pub returns : goal.returns
returns c = order_of_children_is_free
