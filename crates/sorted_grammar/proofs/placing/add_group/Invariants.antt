use Rattle.std.proofs.Common.{◌≡◌, ◌++◌, take}
use Rattle.sorted_grammar.specs.Placing.{placed_in_group}
use Rattle.sorted_grammar.proofs.placing.add_group.Given as goal

abbrev pub invariant-loop-prod : goal.invariant-loop-prod
invariant-loop-prod l = l.placed.items ≡ l.fn.placed.items ++ placed_in_group l.sort l.sentence l.group (take l.prod-index l.prods)
