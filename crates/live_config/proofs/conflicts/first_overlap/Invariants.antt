use Rattle.std.proofs.Common.{◌≡◌, ◌++◌, drop}
use Rattle.live_config.specs.Places.{first_pair}
use Rattle.live_config.proofs.conflicts.first_overlap.Given as goal

-- what is sought is among the places that are left
abbrev pub invariant-loop-place : goal.invariant-loop-place
invariant-loop-place l =
    first_pair l.fn.places (l.fn.first ++ l.fn.second) ≡ first_pair (drop l.place-index l.fn.places) (l.fn.first ++ l.fn.second)
