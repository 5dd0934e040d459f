use Rattle.std.proofs.Common.{take}
use Rattle.module_reader.specs.Joining.{IsGraph}
use Rattle.module_reader.proofs.imports.import_graph.Given as goal

abbrev pub invariant-loop-names : goal.invariant-loop-names
invariant-loop-names l = IsGraph l.modules (take l.names-index l.imports) l.graph.items
