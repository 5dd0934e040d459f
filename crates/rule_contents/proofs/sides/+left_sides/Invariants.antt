use Rattle.std.proofs.Common.{◌≡◌, false, take}
use Rattle.std.specs.List.{list_any}
use Rattle.rule_contents.specs.Operators.{has_operator}
use Rattle.rule_contents.proofs.sides.+left_sides.Given as goal

abbrev pub invariant-any_has_operator-loop-shape : goal.invariant-any_has_operator-loop-shape
invariant-any_has_operator-loop-shape l = list_any (has_operator l.rules) (take l.shape-index l.shapes) ≡ false
