use Rattle.sound_drafts.proofs.DraftVariables.{binds_its_variables}
use Rattle.sound_drafts.proofs.laws.binds_its_variables.Goals as goal

pub returns : goal.returns
returns c = binds_its_variables c.have_names.ensures
