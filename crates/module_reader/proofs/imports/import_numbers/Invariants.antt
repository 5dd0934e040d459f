use Rattle.std.proofs.Common.{take}
use Rattle.module_reader.specs.Joining.{AreNumbers}
use Rattle.module_reader.proofs.imports.import_numbers.Given as goal

abbrev pub invariant-loop-name : goal.invariant-loop-name
invariant-loop-name l = AreNumbers l.modules (take l.name-index l.imports) l.numbers.items
