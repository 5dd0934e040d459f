use Rattle.rule_contents.proofs.Asking.{one_content}
use Rattle.rule_contents.proofs.laws.one_content.Goals as goal

pub returns : goal.returns
returns c = one_content
