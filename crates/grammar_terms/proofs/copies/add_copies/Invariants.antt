use Rattle.std.proofs.Common.{◌≡◌, ◌++◌, take}
use Rattle.grammar_terms.proofs.copies.add_copies.Given as goal

abbrev pub invariant-loop-production : goal.invariant-loop-production
invariant-loop-production l = l.prods.items ≡ l.initial.prods.items ++ take l.production-index l.more
