use Rattle.cell_config.proofs.Outcomes.{one_tree}
use Rattle.cell_config.proofs.laws.one_tree.Goals as goal

pub returns : goal.returns
returns c = one_tree c.one_form.ensures c.one_stop.ensures c.form_or_stop.ensures c.tree.ensures
