use Rattle.std.proofs.Common.{◌≡◌, drop}
use Rattle.std.specs.List.{list_all}
use Rattle.cell_config.specs.Refusals.{lacks_program}
use Rattle.cell_config.proofs.refusals.all_lack_program.Given as goal

abbrev pub invariant-loop-division : goal.invariant-loop-division
invariant-loop-division l = list_all lacks_program l.divisions ≡ list_all lacks_program (drop l.division-index l.divisions)
