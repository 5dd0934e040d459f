use Rattle.std.proofs.Common.{◌≡◌, map, take}
use Rattle.sorted_grammar.specs.Placing.{part_of}
use Rattle.sorted_grammar.proofs.productions.parts.Given as goal

abbrev pub invariant-loop-item : goal.invariant-loop-item
invariant-loop-item l = l.parts.items ≡ map (part_of l.names) (take l.item-index l.items)
