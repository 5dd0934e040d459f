use Rattle.std.proofs.Common.{◌≡◌}
use Rattle.std.specs.List.{filter, flat_map, range_with_len}
use Rattle.cell_trees.specs.Defaults.{is_in}
use Rattle.rule_completion.specs.Completed.{child_or_default}
use Rattle.rule_completion.proofs.filling.with_defaults.Given as goal

abbrev pub invariant-loop-child : goal.invariant-loop-child
invariant-loop-child l =
    l.all.items ≡ flat_map (child_or_default l.tree l.more l.inside) (filter (is_in l.tree l.cell) (range_with_len 0 l.child))
