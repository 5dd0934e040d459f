use Rattle.std.proofs.Common.{◌≡◌, map, take}
use Rattle.small_form.specs.Program.{term_of}
use Rattle.small_form.proofs.program.+values.Given as goal

abbrev pub invariant-values_of-loop-pattern : goal.invariant-values_of-loop-pattern
invariant-values_of-loop-pattern l = map term_of l.values.items ≡ take l.pattern-index l.patterns
