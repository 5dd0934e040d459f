use Rattle.completed_rules.proofs.Soundness.{completed_soundly}
use Rattle.completed_rules.proofs.laws.completed_soundly.Goals as goal

pub returns : goal.returns
returns c = completed_soundly
