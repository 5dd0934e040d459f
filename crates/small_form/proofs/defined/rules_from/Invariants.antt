use Rattle.std.proofs.Common.{◌≡◌, map}
use Rattle.std.specs.Arc.{arc_value}
use Rattle.small_form.specs.Small.{rule_of}
use Rattle.small_form.proofs.defined.rules_from.Given as goal

abbrev pub invariant-loop-rule : goal.invariant-loop-rule
invariant-loop-rule l = map arc_value l.made.items ≡ map rule_of l.yielded
