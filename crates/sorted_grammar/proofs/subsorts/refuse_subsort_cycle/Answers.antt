use Rattle.std.proofs.Common.{length, inr, sym, ap, subst, ◌∙◌}
use Rattle.std.specs.Option.{option_copied}
use Rattle.grammar_terms.specs.Grammar.{order_of}
use Rattle.sorted_grammar.specs.Naming.{first_that, mentioned_in}
use Rattle.sorted_grammar.specs.Placing.{grammar_of}
use Rattle.sorted_grammar.specs.Subsorts.{IsFirstOnCycle}
use Rattle.sorted_grammar.specs.Marks.{is_around}
use Rattle.sorted_grammar.proofs.Around.{no_cycle, first_cycle}
use Rattle.sorted_grammar.proofs.subsorts.refuse_subsort_cycle.Goals as goal

pub returns-in_default : goal.returns-in_default
returns-in_default c =
    let ss = c.args.sentences.now in
    let names_as = ap (λ names. first_that (is_around names c.in_ok-row.row.items) (mentioned_in ss)) c.requires.names in
    no_cycle ss c.in_ok-row.row.items c.sorts.result.now c.len.result (c.sorts.ensures ∙ ap order_of c.requires.grammar) (c.len.ensures ∙ ap length c.requires.names) c.in_ok-row.ensures.each
    (sym names_as ∙ ap (λ row. first_that (is_around c.args.names.now row) (mentioned_in ss)) (sym c.deref.ensures.value) ∙ sym c.first_mentioned.ensures ∙ ap option_copied c.in_default.is)

pub returns : goal.returns
returns c =
    let ss = c.args.sentences.now in
    let names_as = ap (λ names. first_that (is_around names c.in_ok-row.row.items) (mentioned_in ss)) c.requires.names in
    let first : IsFirstOnCycle (grammar_of ss) (mentioned_in ss) c.in-Some.sort.now =
    first_cycle ss c.in_ok-row.row.items c.sorts.result.now c.len.result (c.sorts.ensures ∙ ap order_of c.requires.grammar) (c.len.ensures ∙ ap length c.requires.names) c.in_ok-row.ensures.each c.in-Some.sort.now
    (sym names_as ∙ ap (λ row. first_that (is_around c.args.names.now row) (mentioned_in ss)) (sym c.deref.ensures.value) ∙ sym c.first_mentioned.ensures ∙ ap option_copied c.in-Some.is) in
    inr (record {
      sorts = c.requires.sorts;
      productions = c.requires.productions;
      known = c.requires.known;
      first = subst (IsFirstOnCycle (grammar_of ss) (mentioned_in ss)) (sym c.in_ok-sort.ensures.ok) first;
    })
