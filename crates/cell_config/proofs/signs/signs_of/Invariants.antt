use Rattle.std.proofs.Common.{◌≡◌, take}
use Rattle.cell_config.specs.Divisions.{signs_of}
use Rattle.cell_config.proofs.signs.signs_of.Given as goal

abbrev pub invariant-loop-token : goal.invariant-loop-token
invariant-loop-token l = l.signs ≡ signs_of (take l.token-index l.tokens)
