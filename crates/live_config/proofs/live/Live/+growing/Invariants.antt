use Rattle.std.proofs.Common.{◌≡◌, ◌+◌, ◌*◌, map, filter, take}
use Rattle.live_config.specs.Configuration.{is_child_of, tree as tree_of}
use Rattle.live_config.proofs.live.Live.+growing.Given as goal

-- the levels that are left, where the children of a cell count as a half
abbrev pub decreases-tree : goal.decreases-tree
decreases-tree l = 2 * l.levels

abbrev pub decreases-trees_below : goal.decreases-trees_below
decreases-trees_below l = 2 * l.levels + 1

-- the trees of the children among the cells so far
abbrev pub invariant-trees_below-loop-child : goal.invariant-trees_below-loop-child
invariant-trees_below-loop-child l =
    l.trees.items ≡ map (λ e. tree_of l.fn.levels l.fn.self.now e.0) (filter (λ e. is_child_of l.fn.number e.1) (take l.child-index l.child-items))
