use Rattle.std.proofs.Common.{◌≡◌, ◌+◌, ◌*◌, ◌++◌, drop}
use Rattle.rule_completion.specs.Numbering.{count_all}
use Rattle.rule_completion.specs.Completed.{all_on_side}
use Rattle.rule_completion.proofs.Sizes.{size, size_all}
use Rattle.rule_completion.proofs.side.+siding.Given as goal

-- the cells that are left, where the list of those in a cell counts as a half
abbrev pub decreases-add_tree : goal.decreases-add_tree
decreases-add_tree l = 2 * size l.tree.now

abbrev pub decreases-trees_on : goal.decreases-trees_on
decreases-trees_on l = 2 * size_all l.trees.now + 1

-- what is found, and what is left
abbrev pub invariant-trees_on-loop-tree : goal.invariant-trees_on-loop-tree
invariant-trees_on-loop-tree l =
    (l.next + count_all (drop l.tree-index l.trees) ≡ l.fn.number + count_all l.trees)
    × (l.cells.items ++ all_on_side l.side.tree.now l.side.draft.now l.side.total l.side.is_left l.next (drop l.tree-index l.trees)
    ≡ all_on_side l.side.tree.now l.side.draft.now l.side.total l.side.is_left l.fn.number l.trees)
