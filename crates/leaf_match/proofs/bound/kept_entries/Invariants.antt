use Rattle.std.proofs.Common.{◌≡◌, ◌++◌, drop}
use Rattle.leaf_match.specs.Bindings.{kept}
use Rattle.leaf_match.proofs.bound.kept_entries.Given as goal

abbrev pub invariant-loop-place : goal.invariant-loop-place
invariant-loop-place l = l.copies.items ++ kept l.place l.places (drop l.place l.entries) ≡ kept 0 l.places l.entries
