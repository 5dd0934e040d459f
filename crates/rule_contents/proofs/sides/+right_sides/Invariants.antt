use Rattle.std.proofs.Common.{◌≡◌, false, take}
use Rattle.std.specs.List.{list_any}
use Rattle.rule_contents.specs.Operators.{is_on_right}
use Rattle.rule_contents.proofs.sides.+right_sides.Given as goal

abbrev pub invariant-any_on_right-loop-shape : goal.invariant-any_on_right-loop-shape
invariant-any_on_right-loop-shape l = list_any (is_on_right l.rules l.at) (take l.shape-index l.shapes) ≡ false
