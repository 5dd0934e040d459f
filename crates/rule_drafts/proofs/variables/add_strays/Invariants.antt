use Rattle.std.proofs.Common.{◌≡◌, ◌++◌, take}
use Rattle.std.specs.List.{flat_map}
use Rattle.rule_drafts.specs.Drafts.{stray_fault}
use Rattle.rule_drafts.proofs.variables.add_strays.Given as goal

abbrev pub invariant-loop-occurrence : goal.invariant-loop-occurrence
invariant-loop-occurrence l = l.faults.items ≡ l.fn.faults.items ++ flat_map stray_fault (take l.occurrence-index l.found)
