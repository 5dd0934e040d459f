use Rattle.std.proofs.Common.{◌≡◌, map, take}
use Rattle.rule_completion.specs.Writing.{beside_others}
use Rattle.rule_completion.proofs.writing.compared.Given as goal

abbrev pub invariant-loop-one : goal.invariant-loop-one
invariant-loop-one l = l.found.items ≡ map (beside_others l.others) (take l.one-index l.cells)
