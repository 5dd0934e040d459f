use Rattle.std.proofs.Common.{◌≡◌, take}
use Rattle.grammar_terms.proofs.copies.copy_prods.Given as goal

abbrev pub invariant-loop-production : goal.invariant-loop-production
invariant-loop-production l = l.copies.items ≡ take l.production-index l.prods
