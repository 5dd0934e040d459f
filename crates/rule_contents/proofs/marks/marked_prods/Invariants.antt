use Rattle.std.proofs.Common.{◌≡◌, ◌+◌, take}
use Rattle.rule_contents.specs.Operators.{marked_prods}
use Rattle.rule_contents.proofs.marks.marked_prods.Given as goal

abbrev pub invariant-loop-operator : goal.invariant-loop-operator
invariant-loop-operator l = (l.sort ≡ l.own + l.operator-index) × (l.prods.items ≡ marked_prods l.own (take l.operator-index l.operators))
