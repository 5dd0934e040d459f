use Rattle.std.proofs.Common.{◌≡◌, ℕ, ◌<◌, ◌≤◌, false, drop}
use Rattle.file_reader.specs.Passages.{ends_here}
use Rattle.file_reader.proofs.passages.passage_end.Given as goal

abbrev pub invariant-loop-at : goal.invariant-loop-at
invariant-loop-at l = (k : ℕ) → l.from ≤ k → k < l.at → ends_here (drop k l.source) ≡ false
