use Rattle.std.proofs.Common.{◌≡◌, drop}
use Rattle.std.specs.List.{flat_map}
use Rattle.sorted_grammar.specs.Naming.{first_that, sorts_in_prod}
use Rattle.sorted_grammar.specs.Marks.{is_around}
use Rattle.sorted_grammar.proofs.subsorts.first_in_group.Given as goal

abbrev pub invariant-loop-prod : goal.invariant-loop-prod
invariant-loop-prod l = first_that (is_around l.names l.row) (flat_map sorts_in_prod l.prods) ≡ first_that (is_around l.names l.row) (flat_map sorts_in_prod (drop l.prod-index l.prods))
