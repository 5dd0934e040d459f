use Rattle.std.proofs.Common.{◌≡◌, ◌++◌, take}
use Rattle.rule_contents.proofs.marks.add_words.Given as goal

abbrev pub invariant-loop-word : goal.invariant-loop-word
invariant-loop-word l = l.copies.items ≡ l.initial.copies.items ++ take l.word-index l.words
