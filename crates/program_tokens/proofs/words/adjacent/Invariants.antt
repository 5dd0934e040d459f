use Rattle.std.proofs.Common.{◌≡◌, ◌+◌, ◌≤◌, drop}
use Rattle.program_tokens.specs.Words.{adjacent}
use Rattle.program_tokens.proofs.words.adjacent.Given as goal

abbrev pub invariant-loop-token : goal.invariant-loop-token
invariant-loop-token l = (adjacent l.fn.at l.tokens ≡ l.count + adjacent l.end (drop l.token-index l.tokens)) × (l.count ≤ l.most)
