use Rattle.std.proofs.Common.{◌≡◌}
use Rattle.span_rows.specs.Rows.{Adds}
use Rattle.span_rows.specs.Tokens.{IsEmptyListOf}
use Rattle.span_rows.proofs.Seeding.{UpTo}
use Rattle.span_rows.proofs.tokens.add_empty_lists.Given as goal

abbrev pub invariant-loop-production : goal.invariant-loop-production
invariant-loop-production l = record {
  number : l.prod ≡ l.production-index;
  added : Adds (UpTo l.grammar (IsEmptyListOf l.tokens l.at) l.production-index) l.initial.rows.items l.rows.items;
}
