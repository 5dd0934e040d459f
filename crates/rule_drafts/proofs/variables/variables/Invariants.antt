use Rattle.std.proofs.Common.{◌≡◌, drop, []}
use Rattle.rule_drafts.specs.Drafts.{first_from}
use Rattle.rule_drafts.proofs.variables.variables.Given as goal

abbrev pub invariant-loop-occurrence : goal.invariant-loop-occurrence
invariant-loop-occurrence l = first_from l.vars.items (drop l.occurrence-index l.found) ≡ first_from [] l.found
