use Rattle.std.proofs.Common.{◌≡◌, take}
use Rattle.small_form.specs.Small.{labels_of}
use Rattle.small_form.proofs.definition.have_different_labels.Given as goal

abbrev pub invariant-loop-production : goal.invariant-loop-production
invariant-loop-production l = l.labels.items ≡ labels_of (take l.production-index l.productions)
