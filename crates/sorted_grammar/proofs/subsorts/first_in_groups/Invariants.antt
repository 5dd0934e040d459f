use Rattle.std.proofs.Common.{◌≡◌, drop}
use Rattle.std.specs.List.{flat_map}
use Rattle.sorted_grammar.specs.Naming.{first_that, sorts_in_group}
use Rattle.sorted_grammar.specs.Marks.{is_around}
use Rattle.sorted_grammar.proofs.subsorts.first_in_groups.Given as goal

abbrev pub invariant-loop-prods : goal.invariant-loop-prods
invariant-loop-prods l = first_that (is_around l.names l.row) (flat_map sorts_in_group l.groups) ≡ first_that (is_around l.names l.row) (flat_map sorts_in_group (drop l.prods-index l.groups))
