use Rattle.std.proofs.Common.{◌≡◌, ◌++◌, take}
use Rattle.module_reader.proofs.modules.add_copies.Given as goal

abbrev pub invariant-loop-sentence : goal.invariant-loop-sentence
invariant-loop-sentence l = l.all.items ≡ l.fn.all.items ++ take l.sentence-index l.sentences
