use Rattle.std.proofs.Common.{◌≡◌, drop}
use Rattle.live_config.specs.Places.{first_over}
use Rattle.live_config.proofs.conflicts.overlapped.Given as goal

-- what is sought is among the places that are left
abbrev pub invariant-loop-other : goal.invariant-loop-other
invariant-loop-other l = first_over l.fn.place l.fn.others ≡ first_over l.fn.place (drop l.other-index l.fn.others)
