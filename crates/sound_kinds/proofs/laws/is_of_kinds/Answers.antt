use Rattle.sound_kinds.proofs.KindDefinitions.{of_kinds}
use Rattle.sound_kinds.proofs.laws.is_of_kinds.Goals as goal

pub returns : goal.returns
returns c = of_kinds c.have_names.ensures
