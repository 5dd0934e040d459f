use Rattle.std.proofs.Common.{◌-◌, length}
use Rattle.cell_tokens.proofs.Tagging.{SoFar}
use Rattle.cell_tokens.proofs.tags.attributes.Given as goal

abbrev pub invariant-loop-at : goal.invariant-loop-at
invariant-loop-at l = SoFar l.text l.start l.tokens l.many l.end l.at

abbrev pub decreases-loop-at : goal.decreases-loop-at
decreases-loop-at l = length l.tokens - l.at
