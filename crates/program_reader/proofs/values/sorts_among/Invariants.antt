use Rattle.std.proofs.Common.{◌≡◌, take}
use Rattle.grammar_terms.specs.Values.{sorts_in}
use Rattle.program_reader.proofs.values.sorts_among.Given as goal

abbrev pub invariant-loop-item : goal.invariant-loop-item
invariant-loop-item l = l.sorts.items ≡ sorts_in (take l.item-index l.items)
