use Rattle.std.proofs.Common.{◌≡◌, take}
use Rattle.std.specs.List.{flat_map}
use Rattle.sorted_grammar.specs.Marks.{item_target, blocking}
use Rattle.sorted_grammar.proofs.leading.item_targets.Given as goal

abbrev pub invariant-loop-item : goal.invariant-loop-item
invariant-loop-item l = l.targets.items ≡ flat_map (item_target l.row (blocking l.row l.items)) (take l.item-index l.items)
