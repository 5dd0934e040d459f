use Rattle.std.proofs.Common.{◌≡◌, ◌<◌, ℕ, length}
use Rattle.import_order.specs.Imports.{imports_of}
use Rattle.sorted_grammar.specs.Marks.{AreTargets}
use Rattle.sorted_grammar.proofs.leading.leading.Given as goal

abbrev pub invariant-loop-sort : goal.invariant-loop-sort
invariant-loop-sort l = record {
  long : length l.graph.items ≡ l.sort;
  each : (sort : ℕ) → sort < l.sort → AreTargets l.grammar sort (imports_of l.graph.items sort);
}
