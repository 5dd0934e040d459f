use Rattle.std.proofs.Common.{◌++◌, [], ◌∷◌, arith, sym, ap, ◌∙◌}
use Rattle.std.proofs.lemmas.List.FromFn.{map-range_with_len_more}
use Rattle.rule_terms.specs.declared.pattern.Pattern.{Var}
use Rattle.strictness.proofs.drafts.variables.Goals as goal

pub loop-variable-preserved : goal.loop-variable-preserved
loop-variable-preserved c =
    let x = c.loop-variable.variable in
    c.in_ok-push.ensures.items ∙ ap (λ xs. xs ++ Var x ∷ []) c.loop-variable.invariant ∙ sym (map-range_with_len_more Var 0 x x (omega arith))
