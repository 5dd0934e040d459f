use Rattle.std.proofs.Common.{◌≡◌, take}
use Rattle.strictness.specs.Drafts.{drafts_from}
use Rattle.strictness.proofs.rules.drafts.Given as goal

abbrev pub invariant-loop-index : goal.invariant-loop-index
invariant-loop-index l = l.drafts.items ≡ drafts_from l.cell 1 (take l.index l.prods)
