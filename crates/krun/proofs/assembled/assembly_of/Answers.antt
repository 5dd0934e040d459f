use Rattle.krun.proofs.Defining.{fault_told}
use Rattle.krun.proofs.assembled.assembly_of.Goals as goal

pub returns-in-Err-clause-stop : goal.returns-in-Err-clause-stop
returns-in-Err-clause-stop c = fault_told c.args.bytes.now ⊥ c.in-Err.fault c.from.result c.from.ensures c.in-Err.ensures.fault
