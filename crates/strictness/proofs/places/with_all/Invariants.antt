use Rattle.std.proofs.Common.{◌≡◌, ◌++◌}
use Rattle.strictness.specs.Places.{places_to}
use Rattle.strictness.proofs.places.with_all.Given as goal

abbrev pub invariant-loop-index : goal.invariant-loop-index
invariant-loop-index l = l.places.items ≡ l.before ++ places_to l.index
