use Rattle.std.proofs.Common.{◌≡◌, ◌++◌, take}
use Rattle.rule_drafts.specs.Cells.{events_of}
use Rattle.rule_drafts.proofs.events.+adding.Given as goal

abbrev pub invariant-add_items-loop-item : goal.invariant-add_items-loop-item
invariant-add_items-loop-item l = l.events.items ≡ l.fn.events.items ++ events_of l.side (take l.item-index l.items)
