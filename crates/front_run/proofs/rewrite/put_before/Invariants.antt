use Rattle.std.proofs.Common.{◌≡◌, ◌∷◌, take}
use Rattle.front_run.proofs.rewrite.put_before.Given as goal

abbrev pub invariant-loop-other : goal.invariant-loop-other
invariant-loop-other l = l.values.items ≡ l.fn.first ∷ take l.other-index l.others
