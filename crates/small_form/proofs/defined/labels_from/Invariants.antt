use Rattle.std.proofs.Common.{◌≡◌}
use Rattle.small_form.specs.Small.{labels_of}
use Rattle.small_form.proofs.defined.labels_from.Given as goal

abbrev pub invariant-loop-production : goal.invariant-loop-production
invariant-loop-production l = l.labels.items ≡ labels_of l.yielded
