use Rattle.std.proofs.Common.{◌≡◌, map, take}
use Rattle.small_form.specs.Small.{typed}
use Rattle.small_form.proofs.names.typed_names.Given as goal

abbrev pub invariant-loop-name : goal.invariant-loop-name
invariant-loop-name l = l.texts.items ≡ map (typed l.sort) (take l.name-index l.names)
