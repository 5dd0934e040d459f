use Rattle.std.proofs.Common.{ap, ◌∙◌}
use Rattle.std.specs.List.{flat_map}
use Rattle.std.specs.Option.{option_copied}
use Rattle.sorted_grammar.specs.Naming.{first_that, sort_in, sorts_in_prod}
use Rattle.sorted_grammar.specs.Marks.{is_around}
use Rattle.sorted_grammar.proofs.Searches.{first_here, first_later}
use Rattle.sorted_grammar.proofs.subsorts.first_in_group.Goals as goal

pub loop-prod-preserved : goal.loop-prod-preserved
loop-prod-preserved c =
    first_later (is_around c.args.names.now c.args.row.now) sorts_in_prod c.args.prods.now c.loop-prod.prod-index c.prod-item.result _ c.loop-prod-test.true c.prod-item.is c.loop-prod.invariant (option_copied c.first_in_items.result)
    (c.first_in_items.ensures ∙ ap (λ items. first_that (is_around c.args.names.now c.args.row.now) (flat_map sort_in items)) c.as_slice.ensures) (ap option_copied c.in_default.is)

pub returns-in-loop-prod : goal.returns-in-loop-prod
returns-in-loop-prod c =
    first_here (is_around c.args.names.now c.args.row.now) sorts_in_prod c.args.prods.now c.loop-prod.prod-index c.prod-item.result _ c.loop-prod-test.true c.prod-item.is c.loop-prod.invariant c.in-Some.name.now (option_copied c.first_in_items.result)
    (c.first_in_items.ensures ∙ ap (λ items. first_that (is_around c.args.names.now c.args.row.now) (flat_map sort_in items)) c.as_slice.ensures) (ap option_copied c.in-Some.is)
