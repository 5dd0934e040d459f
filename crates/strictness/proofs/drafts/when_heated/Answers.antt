use Rattle.std.proofs.Common.{◌++◌, ◌-◌, [], ◌∷◌, arith, sym, ap, ◌∙◌}
use Rattle.std.proofs.lemmas.List.FromFn.{map-range_with_len_more}
use Rattle.k_terms.specs.Sorts.{sort_kresult}
use Rattle.rule_terms.specs.declared.rule.Cond.TheVariants.{IsSort, NotSort}
use Rattle.strictness.proofs.drafts.when_heated.Goals as goal

pub loop-earlier-preserved : goal.loop-earlier-preserved
loop-earlier-preserved c =
    let x = c.loop-earlier.earlier in
    c.in_ok-push-2.ensures.items
    ∙ ap (λ xs. xs ++ IsSort x sort_kresult ∷ []) c.loop-earlier.invariant
    ∙ ap (λ xs. NotSort (c.args.place - 1) sort_kresult ∷ xs) (sym (map-range_with_len_more (λ y. IsSort y sort_kresult) 0 x x (omega arith)))
