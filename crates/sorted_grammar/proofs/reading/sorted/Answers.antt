use Rattle.std.proofs.Common.{◌≡◌, arith, sym, ap, subst, ◌∙◌}
use Rattle.std.specs.Option.{option_copied}
use Rattle.sorted_grammar.specs.Naming.{first_that, is_unknown, names_of}
use Rattle.sorted_grammar.specs.Placing.{grammar_by, grammar_of, placed_of, item_sorts}
use Rattle.sorted_grammar.specs.Sorting.{AreKnown, HasNoCyclicProduction}
use Rattle.sorted_grammar.specs.Marks.{AreInside}
use Rattle.sorted_grammar.proofs.Mentions.{are_inside, names_long}
use Rattle.sorted_grammar.proofs.reading.sorted.Goals.{In_ok-grammar}
use Rattle.sorted_grammar.proofs.reading.sorted.Goals as goal

the_grammar : (c : In_ok-grammar) → c.in_ok-grammar.grammar ≡ grammar_of c.args.sentences.now
the_grammar c =
    c.in_ok-grammar.ensures
    ∙ ap (λ names. grammar_by names c.deref-2.result.now) c.in_ok-names.ensures.0
    ∙ ap (grammar_by (names_of c.args.sentences.now)) (c.deref-2.ensures.value ∙ c.in_ok-placed.ensures.0)

pub refuse_cyclic_production-requires-clause-inside : goal.refuse_cyclic_production-requires-clause-inside
refuse_cyclic_production-requires-clause-inside c =
    let long = names_long c.args.sentences.now in
    let few = c.in_ok-names.ensures.1 in
    subst AreInside (sym (the_grammar (goal.at.refuse_cyclic_production-requires-clause-inside c).In_ok-grammar)) (are_inside c.args.sentences.now (omega (arith, long, few)))

pub returns : goal.returns
returns c =
    let ss = c.args.sentences.now in
    let is = the_grammar (goal.at.returns c).In_ok-grammar in
    let known : AreKnown ss =
    sym (ap (λ names. first_that (is_unknown names) (item_sorts (placed_of ss))) c.in_ok-names.ensures.0)
    ∙ sym (ap (λ placed. first_that (is_unknown c.in_ok-names.names) (item_sorts placed)) (c.deref.ensures.value ∙ c.in_ok-placed.ensures.0))
    ∙ sym c.missing_sort.ensures
    ∙ ap option_copied c.in_default.is in
    record {
      sorts = c.in_ok-names.ensures.1;
      productions = c.in_ok-placed.ensures.1;
      known = known;
      is = is;
      no_subsort_cycle = c.in_ok-refuse_subsort_cycle.ensures;
      no_cyclic_production = subst HasNoCyclicProduction is c.in_ok-refuse_cyclic_production.ensures;
    }
