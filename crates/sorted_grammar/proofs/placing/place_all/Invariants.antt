use Rattle.std.proofs.Common.{◌≡◌, ◌++◌, drop}
use Rattle.sorted_grammar.specs.Placing.{placed_from, placed_of}
use Rattle.sorted_grammar.proofs.placing.place_all.Given as goal

abbrev pub invariant-loop-sentence : goal.invariant-loop-sentence
invariant-loop-sentence l = placed_of l.sentences ≡ l.placed.items ++ placed_from l.place l.group (drop l.sentence-index l.sentences)
