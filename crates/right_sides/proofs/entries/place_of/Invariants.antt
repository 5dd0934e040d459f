use Rattle.std.proofs.Common.{◌≡◌, ◌+◌, drop}
use Rattle.builtins.specs.Places.{place_at}
use Rattle.right_sides.proofs.entries.place_of.Given as goal

abbrev pub invariant-loop-place : goal.invariant-loop-place
invariant-loop-place l = place_at l.key l.entries ≡ l.place + place_at l.key (drop l.place l.entries)
