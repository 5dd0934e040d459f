use Rattle.std.proofs.Common.{◌≤◌, ◌-◌, drop, length}
use Rattle.cell_tokens.specs.CellTokens.{lexicon_with}
use Rattle.cell_tokens.proofs.Reading.{AreUpTo}
use Rattle.cell_tokens.proofs.split.read_tokens.Given as goal

abbrev pub invariant-loop-at : goal.invariant-loop-at
invariant-loop-at l = AreUpTo (lexicon_with l.terminals l.grammar l.names) l.text l.found l.tokens (drop l.at l.tokens) × (l.at ≤ length l.tokens)

abbrev pub decreases-loop-at : goal.decreases-loop-at
decreases-loop-at l = length l.tokens - l.at
