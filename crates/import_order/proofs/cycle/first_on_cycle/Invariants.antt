use Rattle.std.proofs.Common.{ℕ, ◌<◌}
use Rattle.import_order.specs.Imports.{Reaches}
use Rattle.import_order.proofs.cycle.first_on_cycle.Given as goal

abbrev pub invariant-loop-number : goal.invariant-loop-number
invariant-loop-number l = (m : ℕ) → m < l.number → Reaches l.graph m m → ⊥
