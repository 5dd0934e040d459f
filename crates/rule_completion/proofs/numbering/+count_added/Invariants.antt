use Rattle.std.proofs.Common.{◌≡◌, ◌+◌, ◌-◌, ◌^◌, min, take}
use Rattle.rule_completion.specs.Numbering.{own_count, count_all}
use Rattle.rule_completion.proofs.numbering.+count_added.Given as goal

abbrev pub invariant-loop-inner : goal.invariant-loop-inner
invariant-loop-inner l = l.found ≡ min (own_count l.tree + count_all (take l.inner-index l.inner-items)) (2 ^ 32 - 1)
