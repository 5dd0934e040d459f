use Rattle.sound_drafts.proofs.Cells.{cells_fit}
use Rattle.sound_drafts.proofs.laws.cells_fit.Goals as goal

pub returns : goal.returns
returns c = cells_fit
