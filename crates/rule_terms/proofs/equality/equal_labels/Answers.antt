use Rattle.rule_terms.proofs.EqualDefs.{labels_decide}
use Rattle.rule_terms.proofs.equality.equal_labels.Goals as goal

pub returns : goal.returns
returns c = labels_decide c.args.a.now c.args.b.now c.eq.result c.eq.ensures
