use Rattle.rule_terms.specs.contracts.rule.RulePartialEq.TheImpl.{ghosts}
use Rattle.rule_terms.proofs.EqualDefs.{rule_decides, decides_same}
use Rattle.rule_terms.proofs.equality.equal_rule.Goals as goal

pub returns : goal.returns
returns c = decides_same c.eq.result (ghosts.eq c.args.a.now c.args.b.now) c.eq.ensures (rule_decides c.args.a.now c.args.b.now)
