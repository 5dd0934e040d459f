use Rattle.std.proofs.Common.{refl, sym, ◌∙◌}
use Rattle.sorted_grammar.proofs.Members.{pair_here, pair_later}
use Rattle.sorted_grammar.proofs.subsorts.steps_to_itself.Goals as goal

pub returns-then-eq : goal.returns-then-eq
returns-then-eq c = (λ _. pair_here c.args.steps.now c.loop-step.step-index c.args.sort c.loop-step-test.true (sym c.eq.ensures ∙ c.if-eq.true), λ _. refl)

pub loop-step-preserved : goal.loop-step-preserved
loop-step-preserved c = pair_later c.args.steps.now c.loop-step.step-index c.args.sort c.loop-step-test.true (sym c.eq.ensures ∙ c.if-eq.false) c.loop-step.invariant
