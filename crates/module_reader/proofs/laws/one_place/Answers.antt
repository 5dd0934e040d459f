use Rattle.module_reader.proofs.Texts.{one_place}
use Rattle.module_reader.proofs.laws.one_place.Goals as goal

pub returns : goal.returns
returns c = one_place
