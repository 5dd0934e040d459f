use Rattle.std.proofs.Common.{take}
use Rattle.std.specs.Prelude.{MatchOption}
use Rattle.rule_drafts.specs.Drafts.{HasNone, IsFirstOf}
use Rattle.rule_drafts.proofs.variables.first_fault.Given as goal

abbrev pub invariant-loop-token : goal.invariant-loop-token
invariant-loop-token l = MatchOption l.first (HasNone (take l.token-index l.faults)) (IsFirstOf (take l.token-index l.faults))
