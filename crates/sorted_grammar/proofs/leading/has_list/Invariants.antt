use Rattle.std.proofs.Common.{◌≡◌, drop}
use Rattle.sorted_grammar.specs.Leading.{has_list}
use Rattle.sorted_grammar.proofs.leading.has_list.Given as goal

abbrev pub invariant-loop-production : goal.invariant-loop-production
invariant-loop-production l = has_list (drop l.production-index l.prods) l.sort ≡ has_list l.prods l.sort
