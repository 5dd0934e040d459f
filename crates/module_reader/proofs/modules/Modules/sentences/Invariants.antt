use Rattle.std.proofs.Common.{◌≡◌, [], take}
use Rattle.std.specs.Prelude.{unwrap_or, slice_get}
use Rattle.std.specs.List.{flat_map}
use Rattle.module_reader.proofs.modules.Modules.sentences.Given as goal

abbrev pub invariant-loop-module : goal.invariant-loop-module
invariant-loop-module l = l.all.items ≡ flat_map (λ m. unwrap_or (slice_get l.self.sentences m) []) (take l.module-index l.module-items)
