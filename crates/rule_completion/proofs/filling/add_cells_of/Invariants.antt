use Rattle.std.proofs.Common.{◌≡◌, ◌++◌, take}
use Rattle.std.specs.List.{filter}
use Rattle.rule_completion.specs.Completed.{is_of}
use Rattle.rule_completion.proofs.filling.add_cells_of.Given as goal

abbrev pub invariant-loop-one : goal.invariant-loop-one
invariant-loop-one l = l.all.items ≡ l.fn.all.items ++ filter (is_of l.cell) (take l.one-index l.cells)
