use Rattle.std.proofs.Common.{◌-◌, length}
use Rattle.file_reader.proofs.Naming.{IsNamed}
use Rattle.file_reader.proofs.names.read_name.Given as goal

abbrev pub invariant-dashes : goal.invariant-dashes
invariant-dashes l = IsNamed l.source l.from l.at l.name.items

abbrev pub decreases-dashes : goal.decreases-dashes
decreases-dashes l = length l.source - l.at
