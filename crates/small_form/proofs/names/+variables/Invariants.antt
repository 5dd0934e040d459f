use Rattle.std.proofs.Common.{◌≡◌, ◌++◌, take}
use Rattle.std.specs.List.{flat_map}
use Rattle.small_form.specs.Small.{variables_of}
use Rattle.small_form.proofs.names.+variables.Given as goal

abbrev pub invariant-push_all_variables-loop-pattern : goal.invariant-push_all_variables-loop-pattern
invariant-push_all_variables-loop-pattern l =
    l.numbers.items ≡ l.initial.numbers.items ++ flat_map variables_of (take l.pattern-index l.patterns)
