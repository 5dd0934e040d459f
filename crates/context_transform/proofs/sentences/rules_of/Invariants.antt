use Rattle.std.proofs.Common.{◌≡◌, take}
use Rattle.std.specs.List.{flat_map}
use Rattle.context_transform.specs.WrittenRules.{rule_in}
use Rattle.context_transform.proofs.sentences.rules_of.Given as goal

abbrev pub invariant-loop-sentence : goal.invariant-loop-sentence
invariant-loop-sentence l = l.found ≡ flat_map rule_in (take l.sentence-index l.sentences)
