use Rattle.strictness.proofs.AllSound.{are_sound_drafts}
use Rattle.strictness.proofs.laws.are_sound_drafts.Goals as goal

pub returns : goal.returns
returns c = are_sound_drafts
