use Rattle.module_reader.proofs.Texts.{not_both}
use Rattle.module_reader.proofs.laws.not_both.Goals as goal

pub returns : goal.returns
returns c = not_both
