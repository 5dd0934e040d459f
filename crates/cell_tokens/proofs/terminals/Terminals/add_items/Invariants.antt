use Rattle.std.proofs.Common.{◌++◌, take}
use Rattle.program_tokens.specs.Terminals.{AreSame, terminals_in}
use Rattle.cell_tokens.proofs.terminals.Terminals.add_items.Given as goal

abbrev pub invariant-loop-item : goal.invariant-loop-item
invariant-loop-item l = AreSame l.self (l.fn.self ++ terminals_in (take l.item-index l.items))
