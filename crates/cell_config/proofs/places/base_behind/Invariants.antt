use Rattle.std.proofs.Common.{◌≡◌, take}
use Rattle.cell_config.specs.Divisions.{base_behind}
use Rattle.cell_config.proofs.places.base_behind.Given as goal

abbrev pub invariant-loop-token : goal.invariant-loop-token
invariant-loop-token l = l.rest ≡ base_behind l.base (take l.token-index l.tokens)
