use Rattle.rule_reader.proofs.Determined.{one_refusal}
use Rattle.rule_reader.proofs.laws.one_refusal.Goals as goal

pub returns : goal.returns
returns c = one_refusal
