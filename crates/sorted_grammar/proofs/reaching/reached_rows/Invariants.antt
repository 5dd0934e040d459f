use Rattle.std.proofs.Common.{◌≡◌, ◌↔◌, ◌<◌, ℕ, [], true, length, get_or}
use Rattle.import_order.specs.Imports.{Reaches}
use Rattle.sorted_grammar.specs.Marks.{marked}
use Rattle.sorted_grammar.proofs.reaching.reached_rows.Given as goal

abbrev pub invariant-loop-start : goal.invariant-loop-start
invariant-loop-start l = record {
  long : length l.rows.items ≡ l.start;
  each : (sort to : ℕ) → sort < l.start → (marked (get_or l.rows.items sort []) to ≡ true) ↔ Reaches l.graph sort to;
}
