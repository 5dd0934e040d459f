use Rattle.std.proofs.Common.{◌≡◌, ◌++◌, drop}
use Rattle.grammar_terms.specs.Values.{sorts_in}
use Rattle.strictness.proofs.places.argument_sorts.Given as goal

abbrev pub invariant-loop-item : goal.invariant-loop-item
invariant-loop-item l = l.sorts.items ++ sorts_in (drop l.item-index l.items) ≡ sorts_in l.items
