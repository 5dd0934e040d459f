use Rattle.std.proofs.Common.{◌≡◌, ◌++◌, take}
use Rattle.rule_parts.specs.Parts.{seen_parts}
use Rattle.rule_drafts.specs.Bodies.{nested_faults}
use Rattle.rule_drafts.proofs.faults.add_nested.Given as goal

abbrev pub invariant-loop-part : goal.invariant-loop-part
invariant-loop-part l = l.faults.items ≡ l.fn.faults.items ++ nested_faults l.leaves l.fn.first (seen_parts (take l.part-index l.parts))
