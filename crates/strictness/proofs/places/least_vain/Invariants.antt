use Rattle.std.proofs.Common.{take, MatchOption}
use Rattle.strictness.specs.Places.{IsLeast, NonePasses, is_vain}
use Rattle.strictness.proofs.places.least_vain.Given as goal

abbrev pub invariant-loop-place : goal.invariant-loop-place
invariant-loop-place l = MatchOption l.least (NonePasses (is_vain (take l.place-index l.named) l.sorts)) (IsLeast (is_vain (take l.place-index l.named) l.sorts))
