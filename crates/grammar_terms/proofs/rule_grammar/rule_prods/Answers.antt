use Rattle.std.proofs.Common.{◌++◌, length, ap, ◌∙◌, append_assoc}
use Rattle.grammar_terms.specs.Builtins.{operator_prods, bracket_prods, builtin_prods}
use Rattle.grammar_terms.proofs.rule_grammar.rule_prods.Goals as goal

pub returns : goal.returns
returns c =
    let s = c.in_ok-sentence.sentence in
    let g = c.in_ok-group.group in
    let n = length c.args.names.now in
    c.from_vec.ensures ∙ c.in_ok-add_brackets.ensures
    ∙ ap (λ prods. prods ++ bracket_prods s g n) (c.in_ok-add_operators.ensures ∙ ap (λ prods. prods ++ operator_prods s g) c.in_ok-prods.ensures)
    ∙ append_assoc c.args.declared.now (operator_prods s g) (bracket_prods s g n)
    ∙ (λ i. c.args.declared.now ++ builtin_prods (c.in_ok-sentence.ensures i) (c.in_ok-group.ensures i) n)
