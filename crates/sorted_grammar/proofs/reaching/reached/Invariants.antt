use Rattle.std.proofs.Common.{◌+◌, length}
use Rattle.import_order.specs.Reaching.{IsReaching, unseen}
use Rattle.sorted_grammar.proofs.reaching.reached.Given as goal

abbrev pub invariant-loop-next : goal.invariant-loop-next
invariant-loop-next l = IsReaching l.graph l.start l.seen.items l.work.items

abbrev pub decreases-loop-next : goal.decreases-loop-next
decreases-loop-next l = unseen l.seen.items + length l.work.items
