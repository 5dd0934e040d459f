use Rattle.strictness.proofs.Searching.{AreGood}
use Rattle.strictness.proofs.places.refuse_bad.Given as goal

abbrev pub invariant-loop-index : goal.invariant-loop-index
invariant-loop-index l = AreGood l.prods l.index
