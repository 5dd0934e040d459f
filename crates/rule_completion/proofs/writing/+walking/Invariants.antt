use Rattle.std.proofs.Common.{◌≡◌, ◌++◌, take}
use Rattle.std.specs.List.{flat_map}
use Rattle.rule_completion.specs.Writing.{cells_at}
use Rattle.rule_completion.proofs.writing.+walking.Given as goal

abbrev pub invariant-add_cells-loop-pattern : goal.invariant-add_cells-loop-pattern
invariant-add_cells-loop-pattern l = l.cells.items ≡ l.fn.cells.items ++ flat_map (cells_at l.above) (take l.pattern-index l.patterns)
