use Rattle.std.proofs.Common.{◌≡◌, ◌<◌, true, false, length}
use Rattle.grammar_terms.specs.Cuts.{Has}
use Rattle.span_rows.specs.Rows.{Adds}
use Rattle.span_rows.proofs.rows.add_all.Given as goal

abbrev pub invariant-loop-row : goal.invariant-loop-row
invariant-loop-row l = record {
  added : Adds (Has l.yielded) l.initial.rows.items l.rows.items;
  more : l.is_more ≡ true → length l.initial.rows.items < length l.rows.items;
  same : l.is_more ≡ false → l.rows.items ≡ l.initial.rows.items;
}
