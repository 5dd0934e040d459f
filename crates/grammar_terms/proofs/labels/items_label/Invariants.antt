use Rattle.std.proofs.Common.{◌≡◌, take}
use Rattle.std.specs.List.{flat_map}
use Rattle.grammar_terms.specs.Grammar.{item_label}
use Rattle.grammar_terms.proofs.labels.items_label.Given as goal

abbrev pub invariant-loop-item : goal.invariant-loop-item
invariant-loop-item l = l.label.items ≡ flat_map item_label (take l.item-index l.items)
