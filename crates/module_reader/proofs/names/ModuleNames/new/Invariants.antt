use Rattle.std.proofs.Common.{◌≡◌, map, take}
use Rattle.module_reader.proofs.names.ModuleNames.new.Given as goal

abbrev pub invariant-loop-name : goal.invariant-loop-name
invariant-loop-name l = map (λ name. name.now) l.set.keys ≡ take l.name-index l.names
