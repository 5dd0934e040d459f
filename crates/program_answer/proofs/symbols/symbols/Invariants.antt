use Rattle.std.proofs.Common.{◌≡◌, ◌-◌, ◌≤◌, length, take}
use Rattle.program_answer.proofs.symbols.symbols.Given as goal

abbrev pub invariant-loop-word : goal.invariant-loop-word
invariant-loop-word l = (l.symbols.items ≡ take l.number l.names) × (l.number ≤ length l.names)

abbrev pub decreases-loop-word : goal.decreases-loop-word
decreases-loop-word l = length l.names - l.number
