use Rattle.std.proofs.Common.{◌↔◌, ℕ, ◌<◌}
use Rattle.import_order.specs.Imports.{Has}
use Rattle.import_order.proofs.cycle.all_modules.Given as goal

abbrev pub invariant-loop-number : goal.invariant-loop-number
invariant-loop-number l = (m : ℕ) → Has l.all.items m ↔ (m < l.number)
