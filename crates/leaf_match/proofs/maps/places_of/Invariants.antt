use Rattle.std.proofs.Common.{take}
use Rattle.std.specs.Prelude.{Some}
use Rattle.leaf_match.specs.Maps.{ArePlaces}
use Rattle.leaf_match.proofs.maps.places_of.Given as goal

abbrev pub invariant-loop-key : goal.invariant-loop-key
invariant-loop-key l = ArePlaces l.entries (take l.key-index l.keys) (Some l.places.items)
