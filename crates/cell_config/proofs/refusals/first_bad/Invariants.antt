use Rattle.std.proofs.Common.{◌≡◌, drop}
use Rattle.cell_config.specs.Refusals.{first_some, bad_content}
use Rattle.cell_config.proofs.refusals.first_bad.Given as goal

abbrev pub invariant-loop-division : goal.invariant-loop-division
invariant-loop-division l = first_some bad_content l.divisions ≡ first_some bad_content (drop l.division-index l.divisions)
