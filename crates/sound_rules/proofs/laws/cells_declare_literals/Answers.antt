use Rattle.sound_rules.proofs.Literals.{declare_literals}
use Rattle.sound_rules.proofs.laws.cells_declare_literals.Goals as goal

pub returns : goal.returns
returns c = declare_literals
