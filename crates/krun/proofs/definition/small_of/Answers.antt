use Rattle.small_form.proofs.Parts.{have_labels}
use Rattle.krun.proofs.definition.small_of.Goals as goal

pub returns-clause-labels : goal.returns-clause-labels
returns-clause-labels c = have_labels c.args.bytes.now c.in-Some.small (rw c.in-Some.is at c.in_ok-small.ensures.read)
