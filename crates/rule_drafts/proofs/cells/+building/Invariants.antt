use Rattle.std.proofs.Common.{◌≡◌, ◌++◌, take}
use Rattle.rule_drafts.specs.Cells.{forest_of}
use Rattle.rule_drafts.proofs.cells.+building.Given as goal

abbrev pub invariant-add_items-loop-item : goal.invariant-add_items-loop-item
invariant-add_items-loop-item l = l.found.items ≡ l.fn.found.items ++ forest_of l.grammar l.leaves l.cells l.readings l.vars l.tokens l.on_left l.side (take l.item-index l.items)
