use Rattle.std.proofs.Common.{◌≡◌, drop}
use Rattle.cell_trees.specs.Initials.{first_cells}
use Rattle.cell_trees.proofs.beginning.initial.Given as goal

abbrev pub invariant-loop-number : goal.invariant-loop-number
invariant-loop-number l = l.live.now.cells ≡ first_cells l.fn.tree l.fn.pgm l.fn.input l.number (drop l.number l.fn.tree.shapes)
