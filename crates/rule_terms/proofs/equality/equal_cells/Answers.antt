use Rattle.rule_terms.proofs.EqualDefs.{shapes_decide}
use Rattle.rule_terms.proofs.equality.equal_cells.Goals as goal

pub returns : goal.returns
returns c = shapes_decide c.args.a.now c.args.b.now c.eq.result c.eq.ensures
