use Rattle.std.proofs.Common.{◌≡◌, ◌-◌, ◌<◌, length}
use Rattle.file_reader.specs.Progress.{IsReading}
use Rattle.file_reader.proofs.reading.read_file.Given as goal

abbrev pub invariant-modules : goal.invariant-modules
invariant-modules l = IsReading l.tokens l.source l.reading.seen l.reading.sorts l.reading.found l.at × ((l.at ≡ 0 → ⊥) → l.at < length l.source)

abbrev pub decreases-modules : goal.decreases-modules
decreases-modules l = length l.source - l.at
