use Rattle.std.proofs.Common.{◌-◌, length}
use Rattle.file_reader.proofs.Gathering.{IsGathered}
use Rattle.file_reader.proofs.bodies.read_body.Given as goal

abbrev pub invariant-sentences : goal.invariant-sentences
invariant-sentences l = IsGathered l.tokens l.source l.from l.fn.sorts l.sorts l.body.imports l.body.sentences l.at

abbrev pub decreases-sentences : goal.decreases-sentences
decreases-sentences l = length l.source - l.at
