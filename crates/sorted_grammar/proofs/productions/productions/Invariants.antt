use Rattle.std.proofs.Common.{◌≡◌, map, take}
use Rattle.sorted_grammar.specs.Placing.{production_of}
use Rattle.sorted_grammar.proofs.productions.productions.Given as goal

abbrev pub invariant-loop-one : goal.invariant-loop-one
invariant-loop-one l = l.prods.items ≡ map (production_of l.names) (take l.one-index l.placed)
