use Rattle.std.proofs.Common.{◌≡◌, drop, filter}
use Rattle.live_config.specs.Live.{children_past, has_parent, number_of_cell}
use Rattle.live_config.proofs.live.Live.next_child.Given as goal

-- the children are those of the cells that are left
abbrev pub invariant-loop-number : goal.invariant-loop-number
invariant-loop-number l =
    children_past l.fn.self.now (number_of_cell l.fn.parent) (number_of_cell l.fn.after)
    ≡ filter (λ e. has_parent (number_of_cell l.fn.parent) e.1) (drop l.number-index l.number-items)
