use Rattle.cell_contents.proofs.Sounding.{contents_are_sound}
use Rattle.cell_contents.proofs.laws.contents_are_sound.Goals as goal

pub returns : goal.returns
returns c = contents_are_sound
