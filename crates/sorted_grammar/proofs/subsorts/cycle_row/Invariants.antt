use Rattle.std.proofs.Common.{◌≡◌, ◌<◌, ◌↔◌, ℕ, length, true}
use Rattle.sorted_grammar.specs.Marks.{marked}
use Rattle.sorted_grammar.specs.Subsorts.{IsAround}
use Rattle.sorted_grammar.proofs.subsorts.cycle_row.Given as goal

abbrev pub invariant-loop-sort : goal.invariant-loop-sort
invariant-loop-sort l = record {
  long : length l.row.items ≡ l.sort;
  each : (sort : ℕ) → sort < l.sort → (marked l.row.items sort ≡ true) ↔ IsAround l.sorts l.count sort;
}
