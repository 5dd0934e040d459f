use Rattle.cell_config.proofs.Outcomes.{not_both}
use Rattle.cell_config.proofs.laws.not_both.Goals as goal

pub returns : goal.returns
returns c = not_both c.one_form.ensures c.one_stop.ensures c.form_or_stop.ensures
