use Rattle.std.proofs.Common.{◌≡◌, drop}
use Rattle.sorted_grammar.specs.Naming.{first_that, is_unknown}
use Rattle.sorted_grammar.specs.Placing.{item_sorts}
use Rattle.sorted_grammar.proofs.productions.missing_sort.Given as goal

abbrev pub invariant-loop-one : goal.invariant-loop-one
invariant-loop-one l = first_that (is_unknown l.names) (item_sorts l.placed) ≡ first_that (is_unknown l.names) (item_sorts (drop l.one-index l.placed))
