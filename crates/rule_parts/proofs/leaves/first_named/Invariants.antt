use Rattle.std.proofs.Common.{◌≡◌, drop}
use Rattle.std.specs.List.{position_from}
use Rattle.rule_parts.specs.Leaves.{is_of_name}
use Rattle.rule_parts.proofs.leaves.first_named.Given as goal

abbrev pub invariant-loop-index : goal.invariant-loop-index
invariant-loop-index l = position_from (is_of_name l.name) 0 l.tokens ≡ position_from (is_of_name l.name) l.index (drop l.index l.tokens)
