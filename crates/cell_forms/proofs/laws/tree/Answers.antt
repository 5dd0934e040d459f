use Rattle.cell_forms.proofs.Trees.{tree}
use Rattle.cell_forms.proofs.laws.tree.Goals as goal

pub returns : goal.returns
returns c = tree
