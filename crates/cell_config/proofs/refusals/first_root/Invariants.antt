use Rattle.std.proofs.Common.{◌≡◌, drop}
use Rattle.cell_config.specs.Refusals.{first_some, root_of}
use Rattle.cell_config.proofs.refusals.first_root.Given as goal

abbrev pub invariant-loop-division : goal.invariant-loop-division
invariant-loop-division l = first_some root_of l.divisions ≡ first_some root_of (drop l.division-index l.divisions)
