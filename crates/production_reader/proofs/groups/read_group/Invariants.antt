use Rattle.std.proofs.Common.{length, ◌-◌}
use Rattle.production_reader.specs.Next.{Goes}
use Rattle.production_reader.proofs.GroupReading.{GroupAwaits}
use Rattle.production_reader.proofs.groups.read_group.Given as goal

abbrev pub invariant-productions : goal.invariant-productions
invariant-productions l = GroupAwaits l.sort l.fn.had l.source l.from l.now l.found l.at × Goes l.now

abbrev pub decreases-productions : goal.decreases-productions
decreases-productions l = length l.source - l.at
