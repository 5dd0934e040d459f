use Rattle.std.proofs.Common.{take}
use Rattle.front_run.specs.Bindings.{AreAt}
use Rattle.front_run.proofs.build.+building.Given as goal

abbrev pub invariant-build_all-loop-pattern : goal.invariant-build_all-loop-pattern
invariant-build_all-loop-pattern l = AreAt l.bound (take l.pattern-index l.patterns) l.values.items
