use Rattle.std.proofs.Common.{◌≡◌, drop}
use Rattle.rule_contents.specs.Words.{sort_of_name}
use Rattle.rule_contents.proofs.words.sort_of.Given as goal

abbrev pub invariant-loop-other : goal.invariant-loop-other
invariant-loop-other l = sort_of_name l.sorts l.name.0 ≡ sort_of_name (drop l.other-index l.sorts) l.name.0
