use Rattle.std.proofs.Common.{length, ◌-◌}
use Rattle.production_reader.proofs.AttributeLists.{AttrsAwait}
use Rattle.production_reader.proofs.attributes.read_list.Given as goal

abbrev pub invariant-attributes : goal.invariant-attributes
invariant-attributes l = AttrsAwait l.brackets l.source l.from l.attrs l.at

abbrev pub decreases-attributes : goal.decreases-attributes
decreases-attributes l = length l.source - l.at
