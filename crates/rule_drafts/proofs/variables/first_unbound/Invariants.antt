use Rattle.std.proofs.Common.{◌≡◌, drop}
use Rattle.std.specs.List.{find}
use Rattle.rule_drafts.specs.Drafts.{is_unbound}
use Rattle.rule_drafts.proofs.variables.first_unbound.Given as goal

abbrev pub invariant-loop-occurrence : goal.invariant-loop-occurrence
invariant-loop-occurrence l = find (is_unbound l.found) l.found ≡ find (is_unbound l.found) (drop l.occurrence-index l.found)
