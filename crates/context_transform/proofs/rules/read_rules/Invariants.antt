use Rattle.std.proofs.Common.{drop}
use Rattle.context_transform.proofs.Rows.{IsReadUpTo}
use Rattle.context_transform.proofs.rules.read_rules.Given as goal

abbrev pub invariant-loop-sentence : goal.invariant-loop-sentence
invariant-loop-sentence l =
    IsReadUpTo l.fn.grammar l.fn.tree l.fn.text l.fn.tokens l.initial.names l.sentences (drop l.sentence-index l.sentences) l.names l.rules.items l.number
