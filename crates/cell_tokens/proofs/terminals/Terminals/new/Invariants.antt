use Rattle.std.proofs.Common.{take}
use Rattle.std.specs.List.{flat_map}
use Rattle.program_tokens.specs.Terminals.{AreSame, terminals_of}
use Rattle.cell_tokens.proofs.terminals.Terminals.new.Given as goal

abbrev pub invariant-loop-production : goal.invariant-loop-production
invariant-loop-production l = AreSame l.found (flat_map terminals_of (take l.production-index l.prods))
