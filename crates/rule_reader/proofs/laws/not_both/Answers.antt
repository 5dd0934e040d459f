use Rattle.rule_reader.proofs.Determined.{draft_or_refusal}
use Rattle.rule_reader.proofs.laws.not_both.Goals as goal

pub returns : goal.returns
returns c = draft_or_refusal
