use Rattle.std.proofs.Common.{◌≡◌, ◌++◌, take}
use Rattle.std.specs.List.{flat_map}
use Rattle.rule_parts.specs.Parts.{seen_parts}
use Rattle.rule_parts.specs.Sides.{part_occurrences}
use Rattle.rule_parts.proofs.sides.add_variables.Given as goal

abbrev pub invariant-loop-part : goal.invariant-loop-part
invariant-loop-part l =
    l.found.items ≡ l.fn.found.items ++ flat_map (part_occurrences l.grammar l.leaves l.kind) (seen_parts (take l.part-index l.parts))
