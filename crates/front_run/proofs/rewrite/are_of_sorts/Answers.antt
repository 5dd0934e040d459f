use Rattle.std.proofs.Common.{rules, subst, get_or, refl, sym, ◌∙◌, ◌≡◌, length}
use Rattle.std.specs.Borrow.{Bor}
use Rattle.std.proofs.lemmas.List.{length-map}
use Rattle.k_terms.specs.declared.value.Value.{Value}
use Rattle.rule_terms.specs.Substitution.{Whole}
use Rattle.front_run.specs.Bindings.{wholes}
use Rattle.front_run.proofs.Matching.{AreOfSorts-length, AreOfSorts-at}
use Rattle.k_terms.specs.Sorts.{Below}
use Rattle.front_run.proofs.Binding.{AreOfSorts-more}
use Rattle.front_run.proofs.rewrite.are_of_sorts.Goals as goal

pub loop-i-preserved : goal.loop-i-preserved
loop-i-preserved c = AreOfSorts-more c.args.sorts.now c.args.variables.now c.args.bound.now c.loop-i.i c.index-bound-i.result (search rules) (search rules) c.index-bound-i.is c.loop-i.invariant
    (subst (λ sort. Below c.args.sorts.now sort (get_or c.args.variables.now c.loop-i.i 0)) c.least_sort.ensures (c.if-not-below.ensures.0 refl))

pub returns-then-variables-bound : goal.returns-then-variables-bound
returns-then-variables-bound c = (
  λ none. cc,
  λ all.
      let count : length c.args.variables.now ≡ length c.args.bound.now = AreOfSorts-length c.args.sorts.now c.args.variables.now (wholes c.args.bound.now) all ∙ length-map c.args.bound.now (λ (b : Bor Value). Whole b.now) in
      absurd (c.if-variables-bound.true count),
)

pub returns-then-not-below : goal.returns-then-not-below
returns-then-not-below c = (
  λ none. cc,
  λ all.
      let here = AreOfSorts-at c.args.sorts.now c.args.variables.now c.args.bound.now c.loop-i.i c.index-bound-i.result (search rules) (search rules) c.index-bound-i.is all in
      c.if-not-below.ensures.1 (subst (λ sort. Below c.args.sorts.now sort (get_or c.args.variables.now c.loop-i.i 0)) (sym c.least_sort.ensures) here),
)
