use Rattle.std.proofs.Common.{◌++◌, ◌∷◌, [], arith, sym, ap, ◌∙◌, append_assoc}
use Rattle.std.proofs.lemmas.List.FromFn.{map-range_with_len_more}
use Rattle.grammar_terms.specs.Builtins.{bracket_prods, placed, parentheses}
use Rattle.grammar_terms.proofs.rule_grammar.add_brackets.Goals as goal

pub loop-sort-preserved : goal.loop-sort-preserved
loop-sort-preserved c =
    let s = c.args.sentence in
    let g = c.args.group in
    c.in_ok-push.ensures.items
    ∙ (λ i. c.loop-sort.invariant i ++ (c.in_ok-placed.ensures ∙ ap (placed s g) c.in_ok-builtin.ensures) i ∷ [])
    ∙ append_assoc c.args.prods.now.items (bracket_prods s g c.loop-sort.sort) (placed s g (parentheses c.loop-sort.sort) ∷ [])
    ∙ ap (λ more. c.args.prods.now.items ++ more) (sym (map-range_with_len_more (λ sort. placed s g (parentheses sort)) 0 c.loop-sort.sort c.loop-sort.sort (omega arith)))
