use Rattle.std.proofs.Common.{◌≡◌, map, take}
use Rattle.rule_contents.specs.Words.{word_of}
use Rattle.rule_contents.proofs.words.words_of.Given as goal

abbrev pub invariant-loop-token : goal.invariant-loop-token
invariant-loop-token l = l.words.items ≡ map (word_of l.sorts) (take l.token-index l.tokens)
