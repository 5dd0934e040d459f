use Rattle.std.proofs.Common.{rules, sym, subst, List}
use Rattle.k_terms.specs.declared.value.Value.{Value}
use Rattle.rule_terms.specs.Substitution.{Subst}
use Rattle.front_run.specs.Front.{IsFrontRule, Rewrites}
use Rattle.front_run.proofs.Stepping.{none_past, none_more}
use Rattle.front_run.proofs.runs.first_rewrite.Goals as goal

pub returns-in-Some-2 : goal.returns-in-Some-2
returns-in-Some-2 c =
    let made = rw c.in-Some-2.is at c.in_ok-next.ensures.rewrites in
    record { rewrites = (c.in-Some.rule.now, made.0, sym c.in-Some.ensures, subst (λ o. Rewrites o c.in-Some.rule.now made.0 c.args.values.now c.in-Some-2.next) c.sorts.ensures made.1); least = c.loop-number.invariant; none = tt }

pub returns-in_default-clause-none : goal.returns-in_default-clause-none
returns-in_default-clause-none c = λ number. none_past c.args.defs.now c.args.values.now c.loop-number.number number (search rules) c.loop-number.invariant

pub loop-number-preserved : goal.loop-number-preserved
loop-number-preserved c =
    none_more c.args.defs.now c.args.values.now c.loop-number.number c.in-Some.rule.now c.loop-number.invariant (sym c.in-Some.ensures)
    (subst (λ o. IsFrontRule o c.in-Some.rule.now → (s : Subst) (new : List Value) → Rewrites o c.in-Some.rule.now s c.args.values.now new → ⊥) c.sorts.ensures (rw c.in_default-2.is at c.in_ok-next.ensures.none))
