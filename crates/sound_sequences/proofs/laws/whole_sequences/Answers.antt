use Rattle.sound_sequences.proofs.Definitions.{whole_sequences}
use Rattle.sound_sequences.proofs.laws.whole_sequences.Goals as goal

pub returns : goal.returns
returns c = whole_sequences c.have_names.ensures
