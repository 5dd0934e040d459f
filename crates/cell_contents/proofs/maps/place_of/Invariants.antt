use Rattle.std.proofs.Common.{◌≡◌, ◌+◌, drop}
use Rattle.cell_contents.specs.Choices.{place_in}
use Rattle.cell_contents.proofs.maps.place_of.Given as goal

abbrev pub invariant-loop-place : goal.invariant-loop-place
invariant-loop-place l = place_in l.key l.entries ≡ l.place + place_in l.key (drop l.place l.entries)
