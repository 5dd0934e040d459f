use Rattle.k_terms.proofs.SortRows.{pass_none, pass_at, pass_closed}
use Rattle.k_terms.proofs.sorts.mark_upper.Goals as goal

pub loop-low-init : goal.loop-low-init
loop-low-init c = pass_none _ _

pub loop-low-preserved : goal.loop-low-preserved
loop-low-preserved c =
    pass_at _ _ _ _ _ _ _ _ c.loop-low-test.true (c.requires _ _ c.loop-low-test.true) c.loop-low.invariant c.mark-has_marked.ensures.marked c.mark-has_marked.ensures.is_new

pub returns-clause-pass : goal.returns-clause-pass
returns-clause-pass c = c.loop-low.invariant.pass

pub returns-clause-fewer : goal.returns-clause-fewer
returns-clause-fewer c = c.loop-low.invariant.fewer

pub returns-clause-closed : goal.returns-clause-closed
returns-clause-closed c = pass_closed _ _ _ _ _ c.loop-low.invariant c.loop-low-test.false
