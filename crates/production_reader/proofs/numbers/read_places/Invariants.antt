use Rattle.std.proofs.Common.{length, ◌-◌}
use Rattle.production_reader.proofs.PlaceReading.{PlacesAwait}
use Rattle.production_reader.proofs.numbers.read_places.Given as goal

abbrev pub invariant-places : goal.invariant-places
invariant-places l = PlacesAwait l.source l.from l.found l.at

abbrev pub decreases-places : goal.decreases-places
decreases-places l = length l.source - l.at
