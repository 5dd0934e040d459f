use Rattle.std.specs.Arc.{arc_value}
use Rattle.rule_terms.proofs.EqualDefs.{rules_decide}
use Rattle.rule_terms.proofs.equality.equal_rules.Goals as goal

pub returns : goal.returns
returns c = rules_decide arc_value c.args.a.now c.args.b.now c.eq.result c.eq.ensures
