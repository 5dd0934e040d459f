use Rattle.rule_contents.proofs.Asking.{not_both}
use Rattle.rule_contents.proofs.laws.not_both.Goals as goal

pub returns : goal.returns
returns c = not_both
