use Rattle.std.proofs.Common.{◌∙◌}
use Rattle.rule_completion.proofs.Found.{forest_is}
use Rattle.rule_completion.proofs.finding.body_at.Goals as goal

pub returns : goal.returns
returns c = c.find_among.ensures 0 ∙ forest_is 0 c.args.mark c.args.forest.now
