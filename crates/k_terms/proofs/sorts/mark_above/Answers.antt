use Rattle.k_terms.proofs.SortRows.{pass_itself, pass_chain}
use Rattle.k_terms.proofs.sorts.mark_above.Goals as goal

pub loop-init : goal.loop-init
loop-init c = pass_itself _ _

pub loop-preserved : goal.loop-preserved
loop-preserved c = pass_chain _ _ _ _ c.loop.invariant c.mark_upper.ensures.pass

pub returns-clause-pass : goal.returns-clause-pass
returns-clause-pass c = pass_chain _ _ _ _ c.loop.invariant c.mark_upper.ensures.pass

pub returns-clause-closed : goal.returns-clause-closed
returns-clause-closed c = c.mark_upper.ensures.closed c.loop-test.false
