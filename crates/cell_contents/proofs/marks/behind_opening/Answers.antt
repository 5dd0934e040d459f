use Rattle.std.proofs.Common.{◌∷◌}
use Rattle.std.specs.Prelude.{codes}
use Rattle.cell_contents.specs.Tails.{opening}
use Rattle.cell_contents.proofs.Behind.{mark_none}
use Rattle.cell_contents.proofs.marks.behind_opening.Goals as goal

pub returns-in_default : goal.returns-in_default
returns-in_default c = λ rest e. mark_none c.as_slice.result.now (codes "ListItem") c.args.words.now c.as_slice.ensures c.in_default.ensures (opening ∷ rest) e
