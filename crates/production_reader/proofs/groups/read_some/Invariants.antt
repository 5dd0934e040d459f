use Rattle.std.proofs.Common.{length, ◌-◌}
use Rattle.production_reader.specs.Next.{Goes}
use Rattle.production_reader.proofs.GroupReading.{SomeAwait}
use Rattle.production_reader.proofs.groups.read_some.Given as goal

abbrev pub invariant-groups : goal.invariant-groups
invariant-groups l = SomeAwait l.sort l.fn.had l.source l.from l.now l.found l.at × Goes l.now

abbrev pub decreases-groups : goal.decreases-groups
decreases-groups l = length l.source - l.at
