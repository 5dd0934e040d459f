use Rattle.krun.proofs.Defining.{undefined_cause}
use Rattle.krun.proofs.definition.definition_of.Goals as goal

pub returns-clause-cause : goal.returns-clause-cause
returns-clause-cause c = undefined_cause c.args.bytes.now c.in-Err.stop c.in-Err.ensures.stop
