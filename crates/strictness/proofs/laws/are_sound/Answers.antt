use Rattle.strictness.proofs.AllSound.{are_sound}
use Rattle.strictness.proofs.laws.are_sound.Goals as goal

pub returns : goal.returns
returns c = are_sound
