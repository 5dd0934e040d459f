use Rattle.cell_trees.proofs.Parents.{parent_is_few}
use Rattle.cell_trees.proofs.beginning.first_cell.Goals as goal

pub number_of-requires : goal.number_of-requires
number_of-requires c = parent_is_few c.args.tree.now c.sound.ensures c.args.number c.in-Some.parent c.args.shape.now c.requires c.in-Some.is
