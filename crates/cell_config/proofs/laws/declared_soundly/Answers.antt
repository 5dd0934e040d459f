use Rattle.cell_config.proofs.Declaring.{declared_soundly}
use Rattle.cell_config.proofs.laws.declared_soundly.Goals as goal

pub returns : goal.returns
returns c = declared_soundly
