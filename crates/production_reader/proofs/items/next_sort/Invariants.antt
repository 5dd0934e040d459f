use Rattle.std.proofs.Common.{◌≡◌, drop}
use Rattle.production_reader.specs.Items.{sorts_of_items}
use Rattle.production_reader.proofs.items.next_sort.Given as goal

abbrev pub invariant-loop-i : goal.invariant-loop-i
invariant-loop-i l = sorts_of_items l.items ≡ sorts_of_items (drop l.i l.items)
