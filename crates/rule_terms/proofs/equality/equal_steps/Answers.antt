use Rattle.rule_terms.proofs.EqualDefs.{steps_decide}
use Rattle.rule_terms.proofs.equality.equal_steps.Goals as goal

pub returns : goal.returns
returns c = steps_decide c.args.a.now c.args.b.now c.eq.result c.eq.ensures
