use Rattle.sound_drafts.proofs.DraftVariables.{knows_its_variables}
use Rattle.sound_drafts.proofs.laws.knows_its_variables.Goals as goal

pub returns : goal.returns
returns c = knows_its_variables
