use Rattle.std.proofs.Common.{◌≡◌, ◌++◌, take}
use Rattle.std.specs.List.{flat_map}
use Rattle.rule_parts.specs.Sides.{as_list}
use Rattle.rule_drafts.proofs.faults.add_tokens.Given as goal

abbrev pub invariant-loop-token : goal.invariant-loop-token
invariant-loop-token l = l.faults.items ≡ l.fn.faults.items ++ flat_map as_list (take l.token-index l.tokens)
