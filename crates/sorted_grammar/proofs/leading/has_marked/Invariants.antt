use Rattle.std.proofs.Common.{◌≡◌, ◌==◌, drop}
use Rattle.std.specs.List.{list_any}
use Rattle.sorted_grammar.specs.Marks.{blocks}
use Rattle.sorted_grammar.proofs.leading.has_marked.Given as goal

abbrev pub invariant-loop-item : goal.invariant-loop-item
invariant-loop-item l = list_any (λ item. blocks l.row item == 0) (drop l.item-index l.items) ≡ list_any (λ item. blocks l.row item == 0) l.items
