use Rattle.std.proofs.Common.{◌≡◌, take}
use Rattle.live_config.proofs.live.Live.view.Given as goal

-- the cells so far are copied
abbrev pub invariant-loop-number : goal.invariant-loop-number
invariant-loop-number l = l.cells.items ≡ take l.number-index l.number-items
