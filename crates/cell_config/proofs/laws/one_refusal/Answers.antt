use Rattle.cell_config.proofs.Outcomes.{one_refusal}
use Rattle.cell_config.proofs.laws.one_refusal.Goals as goal

pub returns : goal.returns
returns c = one_refusal c.one_form.ensures c.one_stop.ensures c.form_or_stop.ensures
