use Rattle.std.proofs.Common.{◌≡◌, take}
use Rattle.rule_parts.specs.Productions.{sorts_in}
use Rattle.rule_parts.proofs.declared_sorts.sorts_of_items.Given as goal

abbrev pub invariant-loop-item : goal.invariant-loop-item
invariant-loop-item l = l.sorts.items ≡ sorts_in (take l.item-index l.items)
