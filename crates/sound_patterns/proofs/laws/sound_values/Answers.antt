use Rattle.sound_patterns.proofs.Definitions.{sound_values}
use Rattle.sound_patterns.proofs.laws.sound_values.Goals as goal

pub returns : goal.returns
returns c = sound_values c.have_names.ensures
