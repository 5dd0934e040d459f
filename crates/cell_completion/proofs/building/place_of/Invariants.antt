use Rattle.cell_completion.proofs.Prefixes.{IsPlaceFrom}
use Rattle.cell_completion.proofs.building.place_of.Given as goal

abbrev pub invariant-loop-place : goal.invariant-loop-place
invariant-loop-place l = IsPlaceFrom l.tree l.trees l.place
