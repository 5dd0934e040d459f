use Rattle.std.proofs.Common.{◌≡◌, ◌++◌, take}
use Rattle.std.specs.List.{flat_map}
use Rattle.rule_reader.specs.Contents.{contents_in}
use Rattle.rule_reader.proofs.contents.+contents.Given as goal

abbrev pub invariant-add_items-loop-item : goal.invariant-add_items-loop-item
invariant-add_items-loop-item l = l.found.items ≡ l.fn.found.items ++ flat_map (contents_in l.side) (take l.item-index l.items)
