use Rattle.std.proofs.Common.{◌<◌, length, arith}
use Rattle.std.proofs.lemmas.Grind.{common_steps}
use Rattle.krun.specs.Refusals.{def_limit}
use Rattle.krun.proofs.Defining.{too_long_file, same_fault}
use Rattle.krun.proofs.assembled.definition_bytes.Goals as goal

pub returns-then-len-gt-DEFINITION_LIMIT-clause-definition : goal.returns-then-len-gt-DEFINITION_LIMIT-clause-definition
returns-then-len-gt-DEFINITION_LIMIT-clause-definition g c = λ fault. λ is.
    let long : def_limit < length c.in_ok-bytes.bytes.items = grind (arith, common_steps) in
    same_fault _ _ fault is (too_long_file _ c.in_ok-bytes.bytes.items long c.in_ok-bytes.ensures.all)
