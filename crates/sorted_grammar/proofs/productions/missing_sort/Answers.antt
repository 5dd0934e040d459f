use Rattle.std.proofs.Common.{ap, ◌∙◌}
use Rattle.std.specs.List.{flat_map}
use Rattle.std.specs.Option.{option_copied}
use Rattle.sorted_grammar.specs.Naming.{is_unknown, first_that, sort_in, sorts_in_prod}
use Rattle.sorted_grammar.proofs.Searches.{first_here, first_later}
use Rattle.sorted_grammar.proofs.productions.missing_sort.Goals as goal

pub loop-one-preserved : goal.loop-one-preserved
loop-one-preserved c =
    first_later (is_unknown c.args.names.now) (λ one. sorts_in_prod one.prod) c.args.placed.now c.loop-one.one-index c.one-item.result _ c.loop-one-test.true c.one-item.is c.loop-one.invariant (option_copied c.missing_among.result)
    (c.missing_among.ensures ∙ ap (λ items. first_that (is_unknown c.args.names.now) (flat_map sort_in items)) (c.as_slice.ensures ∙ ap (λ one. one.prod.items) c.one.view_is)) (ap option_copied c.in_default.is)

pub returns-in-loop-one : goal.returns-in-loop-one
returns-in-loop-one c =
    first_here (is_unknown c.args.names.now) (λ one. sorts_in_prod one.prod) c.args.placed.now c.loop-one.one-index c.one-item.result _ c.loop-one-test.true c.one-item.is c.loop-one.invariant c.in-Some.name.now (option_copied c.missing_among.result)
    (c.missing_among.ensures ∙ ap (λ items. first_that (is_unknown c.args.names.now) (flat_map sort_in items)) (c.as_slice.ensures ∙ ap (λ one. one.prod.items) c.one.view_is)) (ap option_copied c.in-Some.is)
