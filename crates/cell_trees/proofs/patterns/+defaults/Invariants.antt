use Rattle.std.proofs.Common.{◌≡◌, ◌*◌, ◌+◌, map}
use Rattle.std.specs.List.{filter, range_with_len}
use Rattle.cell_trees.specs.Defaults.{default_down, is_in}
use Rattle.cell_trees.proofs.patterns.+defaults.Given as goal

abbrev pub decreases-default_down : goal.decreases-default_down
decreases-default_down l = 2 * l.levels

abbrev pub decreases-defaults_in : goal.decreases-defaults_in
decreases-defaults_in l = 2 * l.levels + 1

abbrev pub invariant-defaults_in-loop-cell : goal.invariant-defaults_in-loop-cell
invariant-defaults_in-loop-cell l =
    l.patterns.items ≡ map (default_down l.levels l.tree l.more) (filter (is_in l.tree l.parent) (range_with_len 0 l.cell))
