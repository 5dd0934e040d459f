use Rattle.std.proofs.Common.{◌≡◌, ◌+◌, ◌≤◌, drop}
use Rattle.rule_parts.specs.Parts.{seen_parts}
use Rattle.rule_parts.specs.Sides.{items_before}
use Rattle.rule_parts.proofs.collected.items_before.Given as goal

abbrev pub invariant-loop-part : goal.invariant-loop-part
invariant-loop-part l =
    (l.count + items_before l.on_left (seen_parts (drop l.part-index l.parts)) ≡ items_before l.on_left (seen_parts l.parts)) × (l.count ≤ l.part-index)
