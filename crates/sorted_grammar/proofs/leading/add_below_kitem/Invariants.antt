use Rattle.sorted_grammar.specs.Marks.{IsWithBelow}
use Rattle.sorted_grammar.proofs.leading.add_below_kitem.Given as goal

abbrev pub invariant-loop-to : goal.invariant-loop-to
invariant-loop-to l = IsWithBelow l.grammar l.to l.fn.targets.items l.targets.items
