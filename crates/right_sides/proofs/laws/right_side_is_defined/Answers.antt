use Rattle.right_sides.proofs.SideDefined.{side_defined}
use Rattle.right_sides.proofs.laws.right_side_is_defined.Goals as goal

pub returns : goal.returns
returns c = side_defined
