use Rattle.std.proofs.Common.{ℕ, ◌<◌}
use Rattle.import_order.specs.Imports.{Has}
use Rattle.base_tests.proofs.orders.below.Given as goal

abbrev pub invariant-loop-number : goal.invariant-loop-number
invariant-loop-number l = (x : ℕ) → Has l.kept.items x → x < l.limit
