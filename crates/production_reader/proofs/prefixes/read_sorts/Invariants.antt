use Rattle.std.proofs.Common.{length, ◌-◌}
use Rattle.production_reader.proofs.SortReading.{SortsAwait}
use Rattle.production_reader.proofs.prefixes.read_sorts.Given as goal

abbrev pub invariant-sorts : goal.invariant-sorts
invariant-sorts l = SortsAwait l.source l.from l.fn.before l.items l.at

abbrev pub decreases-sorts : goal.decreases-sorts
decreases-sorts l = length l.source - l.at
