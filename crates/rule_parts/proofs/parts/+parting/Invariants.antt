use Rattle.std.proofs.Common.{◌≡◌, ◌++◌, take}
use Rattle.std.specs.List.{flat_map}
use Rattle.rule_parts.specs.Parts.{parts_in, seen_parts}
use Rattle.rule_parts.proofs.parts.+parting.Given as goal

abbrev pub invariant-add_all-loop-shape : goal.invariant-add_all-loop-shape
invariant-add_all-loop-shape l =
    seen_parts l.parts.items ≡ seen_parts l.fn.parts.items ++ flat_map (parts_in l.kind l.count l.side) (take l.shape-index l.shapes)
