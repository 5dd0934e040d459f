use Rattle.std.proofs.Common.{◌≡◌, take}
use Rattle.cell_contents.specs.Words.{words_of}
use Rattle.cell_contents.proofs.words.words_of.Given as goal

abbrev pub invariant-loop-token : goal.invariant-loop-token
invariant-loop-token l = l.words ≡ words_of (take l.token-index l.tokens)
