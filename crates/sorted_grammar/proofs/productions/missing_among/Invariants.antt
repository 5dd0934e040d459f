use Rattle.std.proofs.Common.{◌≡◌, drop}
use Rattle.std.specs.List.{flat_map}
use Rattle.sorted_grammar.specs.Naming.{first_that, is_unknown, sort_in}
use Rattle.sorted_grammar.proofs.productions.missing_among.Given as goal

abbrev pub invariant-loop-item : goal.invariant-loop-item
invariant-loop-item l = first_that (is_unknown l.names) (flat_map sort_in l.items) ≡ first_that (is_unknown l.names) (flat_map sort_in (drop l.item-index l.items))
