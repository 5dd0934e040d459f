use Rattle.std.proofs.Common.{take}
use Rattle.import_order.specs.Reaching.{IsAdded}
use Rattle.import_order.proofs.cycle.add_unseen.Given as goal

abbrev pub invariant-loop-import : goal.invariant-loop-import
invariant-loop-import l = IsAdded (take l.import-index l.imports) l.fn.seen l.seen l.fn.work.items l.work.items
