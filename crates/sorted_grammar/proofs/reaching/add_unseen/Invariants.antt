use Rattle.std.proofs.Common.{take}
use Rattle.import_order.specs.Reaching.{IsAdded}
use Rattle.sorted_grammar.proofs.reaching.add_unseen.Given as goal

abbrev pub invariant-loop-target : goal.invariant-loop-target
invariant-loop-target l = IsAdded (take l.target-index l.targets) l.fn.seen l.seen l.fn.work.items l.work.items
