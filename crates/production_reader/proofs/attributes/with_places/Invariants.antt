use Rattle.std.proofs.Common.{◌≡◌, ◌++◌, take}
use Rattle.production_reader.proofs.attributes.with_places.Given as goal

abbrev pub invariant-loop-number : goal.invariant-loop-number
invariant-loop-number l = l.found ≡ l.initial.found ++ take l.number-index l.number-items
