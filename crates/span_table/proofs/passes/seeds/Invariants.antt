use Rattle.std.proofs.Common.{◌≡◌, []}
use Rattle.span_rows.specs.Rows.{Adds, IsSeedOf}
use Rattle.span_rows.proofs.Seeding.{UpTo}
use Rattle.span_table.proofs.passes.seeds.Given as goal

abbrev pub invariant-loop-production : goal.invariant-loop-production
invariant-loop-production l = record {
  number : l.prod ≡ l.production-index;
  added : Adds (UpTo l.grammar IsSeedOf l.production-index) [] l.rows.items;
}
