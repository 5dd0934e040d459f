use Rattle.std.proofs.Common.{◌≡◌, ◌∷◌, take}
use Rattle.cell_contents.proofs.found.joined.Given as goal

abbrev pub invariant-loop-value : goal.invariant-loop-value
invariant-loop-value l = l.values ≡ l.fn.first ∷ take l.value-index l.rest
