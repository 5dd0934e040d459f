use Rattle.std.proofs.Common.{◌≡◌}
use Rattle.cell_config.specs.Trees.{helds_of}
use Rattle.cell_config.proofs.tree.helds_of.Given as goal

abbrev pub invariant-loop-cell : goal.invariant-loop-cell
invariant-loop-cell l = l.helds ≡ helds_of l.yielded
