use Rattle.std.proofs.Common.{◌≡◌, length}
use Rattle.small_form.specs.Small.{are_different}
use Rattle.small_form.proofs.names.are_different.Given as goal

abbrev pub invariant-loop-first : goal.invariant-loop-first
invariant-loop-first l = are_different l.texts ≡ are_different l.rest

abbrev pub decreases-loop-first : goal.decreases-loop-first
decreases-loop-first l = length l.rest
