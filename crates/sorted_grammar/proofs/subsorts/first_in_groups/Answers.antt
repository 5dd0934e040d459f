use Rattle.std.proofs.Common.{ap, ◌∙◌}
use Rattle.std.specs.List.{flat_map}
use Rattle.std.specs.Option.{option_copied}
use Rattle.sorted_grammar.specs.Naming.{first_that, sorts_in_prod, sorts_in_group}
use Rattle.sorted_grammar.specs.Marks.{is_around}
use Rattle.sorted_grammar.proofs.Searches.{first_here, first_later}
use Rattle.sorted_grammar.proofs.subsorts.first_in_groups.Goals as goal

pub loop-prods-preserved : goal.loop-prods-preserved
loop-prods-preserved c =
    first_later (is_around c.args.names.now c.args.row.now) sorts_in_group c.args.groups.now c.loop-prods.prods-index c.prods-item.result _ c.loop-prods-test.true c.prods-item.is c.loop-prods.invariant (option_copied c.first_in_group.result)
    (c.first_in_group.ensures ∙ ap (λ items. first_that (is_around c.args.names.now c.args.row.now) (flat_map sorts_in_prod items)) c.as_slice.ensures) (ap option_copied c.in_default.is)

pub returns-in-loop-prods : goal.returns-in-loop-prods
returns-in-loop-prods c =
    first_here (is_around c.args.names.now c.args.row.now) sorts_in_group c.args.groups.now c.loop-prods.prods-index c.prods-item.result _ c.loop-prods-test.true c.prods-item.is c.loop-prods.invariant c.in-Some.name.now (option_copied c.first_in_group.result)
    (c.first_in_group.ensures ∙ ap (λ items. first_that (is_around c.args.names.now c.args.row.now) (flat_map sorts_in_prod items)) c.as_slice.ensures) (ap option_copied c.in-Some.is)
