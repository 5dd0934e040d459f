use Rattle.std.proofs.Common.{◌≡◌, ◌≤◌, ◌+◌, drop}
use Rattle.sorted_grammar.specs.Marks.{blocking}
use Rattle.sorted_grammar.proofs.nullable.blocking.Given as goal

abbrev pub invariant-loop-item : goal.invariant-loop-item
invariant-loop-item l = record { small : l.count ≤ l.item-index; rest : l.count + blocking l.row (drop l.item-index l.items) ≡ blocking l.row l.items }
