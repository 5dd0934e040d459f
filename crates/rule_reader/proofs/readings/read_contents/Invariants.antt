use Rattle.std.proofs.Common.{take}
use Rattle.rule_reader.specs.Readings.{AreReadAs}
use Rattle.rule_reader.proofs.readings.read_contents.Given as goal

abbrev pub invariant-loop-content : goal.invariant-loop-content
invariant-loop-content l = AreReadAs l.grammar l.cells l.words (take l.content-index l.contents) l.readings.items
