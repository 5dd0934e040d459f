use Rattle.std.proofs.Common.{length, ◌-◌}
use Rattle.production_reader.proofs.PartReading.{PartsRead}
use Rattle.production_reader.proofs.items.read_parts.Given as goal

abbrev pub invariant-parts : goal.invariant-parts
invariant-parts l = PartsRead l.source l.from l.fn.before l.items l.at

abbrev pub decreases-parts : goal.decreases-parts
decreases-parts l = length l.source - l.at
