use Rattle.sorted_grammar.proofs.Following.{below_none, below_more}
use Rattle.sorted_grammar.proofs.leading.add_below_kitem.Goals as goal

pub loop-to-init : goal.loop-to-init
loop-to-init c = below_none _ _

pub loop-to-preserved : goal.loop-to-preserved
loop-to-preserved c = below_more _ _ _ _ _ c.loop-to.invariant c.in_ok-add_if_below.ensures
