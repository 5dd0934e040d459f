use Rattle.std.proofs.Common.{drop}
use Rattle.context_transform.proofs.Rows.{IsCompletedUpTo}
use Rattle.context_transform.proofs.rules.complete_all.Given as goal

abbrev pub invariant-loop-draft : goal.invariant-loop-draft
invariant-loop-draft l = IsCompletedUpTo l.fn.tree l.drafts (drop l.draft-index l.drafts) l.initial.rules.items l.rules.items l.number
