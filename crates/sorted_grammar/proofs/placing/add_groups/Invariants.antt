use Rattle.std.proofs.Common.{◌≡◌, ◌+◌, ◌++◌, drop}
use Rattle.sorted_grammar.specs.Placing.{placed_in_groups}
use Rattle.sorted_grammar.proofs.placing.add_groups.Given as goal

abbrev pub invariant-loop-prods : goal.invariant-loop-prods
invariant-loop-prods l = record {
  count : l.group ≡ l.fn.first + l.prods-index;
  rest : l.fn.placed.items ++ placed_in_groups l.sort l.sentence l.fn.first l.groups ≡ l.placed.items ++ placed_in_groups l.sort l.sentence l.group (drop l.prods-index l.groups);
}
