use Rattle.std.proofs.Common.{◌≡◌, take}
use Rattle.rule_parts.specs.Parts.{seen_parts}
use Rattle.rule_parts.specs.Sides.{of_side, what_entries}
use Rattle.rule_parts.proofs.collected.entries_of.Given as goal

abbrev pub invariant-loop-part : goal.invariant-loop-part
invariant-loop-part l = l.found.items ≡ of_side l.on_left (what_entries l.grammar l.leaves l.vars) (seen_parts (take l.part-index l.parts))
